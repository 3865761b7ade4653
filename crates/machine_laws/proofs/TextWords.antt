-- A word of the text is what the memory has at its address, and may be fetched.
use Rattle.std.proofs.Common.{◌≡◌, ℕ, ◌+◌, ◌-◌, ◌*◌, ◌%◌, ◌^◌, ◌<◌, Bool, true, false, cond, List, Option, Some, None, Ok, refl, sym, ap, subst, ◌∙◌, arith, add-zero}
use Rattle.std.specs.Prelude.{◌==◌, option_map}
use Rattle.std.specs.List.{find, list_any}
use Rattle.std.proofs.lemmas.Bool.{and_parts, and_from, or_left, eqb-true}
use Rattle.scale_base.specs.declared.headers.ProgramHeader.{ProgramHeader}
use Rattle.scale_base.specs.Bytes.{byte_at, list_half_at}
use Rattle.scale_base.specs.Bytes as stored
use Rattle.scale_base.specs.Rules.{AllHold}
use Rattle.scale_base.specs.Image.{Image, image_of, contents, is_in, text_ranges, all_text_rules, loaded_headers, loaded_byte, header_has_word, file_place, is_word_address, text_word}
use Rattle.scale_base.specs.Layout.{layout_of, may_fetch, is_keyed, fetches_byte, each_byte, can_fetch}
use Rattle.scale_base.specs.State.{word_at}
use Rattle.scale_base.proofs.Laws.{rules_kept, contents-are, rules_of, each_byte_none, each_byte_more}
use Rattle.machine_laws.proofs.Tests.{mapped_from}
use Rattle.machine_laws.proofs.Segments.{SegmentsKept, segments_of}
use Rattle.machine_laws.proofs.TextBytes.{word_in_text, byte_loaded}

-- what a word of the text has: its address, the segment that has it in its file part, and its bytes
pub record IsTextWord (file : List ℕ) (at w : ℕ) : Type 0 where
  pub aligned : at % 4 ≡ 0
  pub inside : list_any (is_in at) (text_ranges file) ≡ true
  pub segment : ProgramHeader
  pub found : find (header_has_word at) (loaded_headers file) ≡ Some segment
  pub value : stored.list_word_at file (segment.p_offset + (at - segment.p_vaddr)) ≡ w

given : {A : Type 0} (b : Bool) (o : Option A) (x : A) → cond b o None ≡ Some x → (b ≡ true) × (o ≡ Some x)
given true o x e = (refl, e)
given false o x e = absurd cc

pub text_word_is : (file : List ℕ) (at w : ℕ) → text_word (contents file) at ≡ Some w → IsTextWord file at w
unfolding text_word contents
text_word_is file at w e =
    let g = given (is_word_address (contents file) at) (option_map (stored.list_word_at file) (file_place file at)) w e in
    let a = and_parts (at % 4 == 0) (list_any (is_in at) (text_ranges file)) g.0 in
    let place = mapped_from (stored.list_word_at file) (file_place file at) w g.1 in
    let h = mapped_from (λ h. h.p_offset + (at - h.p_vaddr)) (find (header_has_word at) (loaded_headers file)) place.0 place.1 in
    record { aligned = eqb-true (at % 4) 0 a.0; inside = a.1; segment = h.0; found = h.1; value = ap (stored.list_word_at file) h.2 ∙ place.2 }

-- the number of four bytes in memory is that of the bytes of the file
same_word : (file : List ℕ) (loaded : ℕ → ℕ) (at place : ℕ) → ((k : ℕ) → k < 4 → loaded (at + k) ≡ byte_at file (place + k)) → word_at loaded at ≡ stored.list_word_at file place
unfolding list_half_at stored.list_word_at
same_word file loaded at place same =
    let a = ap loaded (sym (add-zero at)) ∙ same 0 (omega arith) ∙ ap (byte_at file) (add-zero place) in
    let b = same 1 (omega arith) in
    let c = same 2 (omega arith) in
    let d = same 3 (omega arith) in
    sums (loaded at) (loaded (at + 1)) (loaded (at + 2)) (loaded (at + 3)) (byte_at file place) (byte_at file (place + 1)) (byte_at file (place + 2)) (byte_at file (place + 2 + 1))
    a b c (d ∙ ap (byte_at file) (omega arith))
  where
    sums : (a b c d p q r s : ℕ) → a ≡ p → b ≡ q → c ≡ r → d ≡ s → a + b * 2 ^ 8 + c * 2 ^ 16 + d * 2 ^ 24 ≡ (p + 256 * q) + 65536 * (r + 256 * s)
    sums a b c d p q r s e f g h = omega (arith, e, f, g, h)

contents_loaded : (file : List ℕ) (at w : ℕ) → SegmentsKept file → AllHold (all_text_rules file (loaded_headers file)) → text_word (contents file) at ≡ Some w → word_at (loaded_byte (contents file)) at ≡ w
contents_loaded file at w kept rules e =
    let t = text_word_is file at w e in
    same_word file (loaded_byte (contents file)) at (t.segment.p_offset + (at - t.segment.p_vaddr)) (λ k small. byte_loaded file at k t.segment kept rules t.aligned small t.inside t.found) ∙ t.value

fetched_byte : (file : List ℕ) (at : ℕ) → list_any (is_in at) (text_ranges file) ≡ true → fetches_byte (layout_of (contents file)) at ≡ true
unfolding may_fetch layout_of contents
fetched_byte file at e = or_left (list_any (is_in at) (text_ranges file)) (is_keyed (layout_of (contents file)) at) e

contents_fetched : (file : List ℕ) (at w : ℕ) → AllHold (all_text_rules file (loaded_headers file)) → text_word (contents file) at ≡ Some w → can_fetch (layout_of (contents file)) at ≡ true
contents_fetched file at w rules e =
    let t = text_word_is file at w e in
    let test = fetches_byte (layout_of (contents file)) in
    let byte = λ (k : ℕ) (small : k < 4). fetched_byte file (at + k) (word_in_text file at k rules t.aligned small t.inside) in
    let one = each_byte_more test at 0 (each_byte_none test at) (byte 0 (omega arith)) in
    let two = each_byte_more test at 1 one (byte 1 (omega arith)) in
    let three = each_byte_more test at 2 two (byte 2 (omega arith)) in
    let four = each_byte_more test at 3 three (byte 3 (omega arith)) in
    and_from (at % 4 == 0) (each_byte test at 4) (aligned at t.aligned) four
  where
    aligned : (at : ℕ) → at % 4 ≡ 0 → (at % 4 == 0) ≡ true
    aligned at e = ap (λ (n : ℕ). n == 0) e

-- a word of the text is the word that the loaded memory holds at its address
pub word_loaded : (file : List ℕ) (image : Image) (at w : ℕ) → image_of file ≡ Ok image → text_word image at ≡ Some w → word_at (loaded_byte image) at ≡ w
word_loaded file image at w e =
    let P : Image → Type 0 = λ i. text_word i at ≡ Some w → word_at (loaded_byte i) at ≡ w in
    subst P (contents-are file image e) (contents_loaded file at w (segments_of file image e) (rules_of file (rules_kept file image e)).text)

-- and it may be fetched
pub word_fetched : (file : List ℕ) (image : Image) (at w : ℕ) → image_of file ≡ Ok image → text_word image at ≡ Some w → can_fetch (layout_of image) at ≡ true
word_fetched file image at w e =
    let P : Image → Type 0 = λ i. text_word i at ≡ Some w → can_fetch (layout_of i) at ≡ true in
    subst P (contents-are file image e) (contents_fetched file at w (rules_of file (rules_kept file image e)).text)
