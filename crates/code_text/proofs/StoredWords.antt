-- The words of the text of an image are those that are read from its file.
use Rattle.std.proofs.Common.{◌≡◌, ℕ, ◌+◌, ◌%◌, Bool, true, false, List, Option, Some, None, Ok, refl, sym, ap, subst, ◌∙◌, arith}
use Rattle.std.specs.Prelude.{nat_le, ◌==◌, ◌&&◌, option_map, option_and_then}
use Rattle.std.specs.List.{list_any}
use Rattle.std.proofs.lemmas.Bool.{and_parts, and_from, eqb-true, le-leb, cond-true, cond-false}
use Rattle.scale_base.specs.Bytes as stored
use Rattle.scale_base.specs.Spans.{in_span}
use Rattle.scale_base.specs.Image.{Image, image_of, contents, is_in, memory_range, text_ranges, loaded_headers, header_has_word, file_place, is_word_address, text_word}
use Rattle.scale_base.specs.Reading.{instr_of}
use Rattle.scale_base.specs.State.{word_at}
use Rattle.scale_base.proofs.Laws.{rules_kept, contents-are, rules_of}
use Rattle.machine_laws.proofs.Laws.{found_from_any, any_from_found, segments_of, in_part, InText, in_text, word_loaded}
use Rattle.code_text.specs.Text.{Text, text_of, word_kind, kind_at}
use Rattle.code_text.specs.Laws.{KindsAreOfStoredWords, InstructionsAreOfStoredWords}

pub instruction_stored : InstructionsAreOfStoredWords
instruction_stored file image at w e read = ap instr_of (word_loaded file image at w e read)

-- the segment that holds the part of a word has the word in its file part
has_word : (file : List ℕ) (at : ℕ) → at % 4 ≡ 0 → (t : InText file at) → header_has_word at t.segment ≡ true
has_word file at word t =
    let b = in_part at t.part t.inside in
    let first = t.placed.first in
    let size = t.placed.size in
    let low = t.holds.low in
    let high = t.holds.high in
    let from = b.0 in
    let to = b.1 in
    and_from (nat_le t.segment.p_vaddr at) (nat_le (at + 4) (t.segment.p_vaddr + t.segment.p_filesz))
    (le-leb t.segment.p_vaddr at (omega (arith, low, from)))
    (le-leb (at + 4) (t.segment.p_vaddr + t.segment.p_filesz) (omega (arith, word, first, size, high, to)))

-- so each word of the text is read
is_read : (file : List ℕ) (image : Image) → image_of file ≡ Ok image → (at : ℕ) → is_word_address (contents file) at ≡ true → (w : ℕ) × (text_word (contents file) at ≡ Some w)
unfolding text_word contents
is_read file image e at is =
    let p = and_parts (at % 4 == 0) (list_any (is_in at) (text_ranges file)) is in
    let t = in_text file at (segments_of file image e) (rules_of file (rules_kept file image e)).text p.1 in
    let any = any_from_found (λ g. in_span (memory_range g) at) (header_has_word at) (loaded_headers file) t.segment t.covers (has_word file at (eqb-true (at % 4) 0 p.0) t) in
    let h = found_from_any (header_has_word at) (loaded_headers file) any in
    let place : file_place file at ≡ Some _ = ap (option_map _) h.1 in
    (_, cond-true (is_word_address (contents file) at) (option_map (stored.list_word_at file) (file_place file at)) None is ∙ ap (option_map (stored.list_word_at file)) place)

kind_of : (t : Text) (at : ℕ) (b : Bool) (o : Option ℕ) → ((at % 4 == 0) && list_any (is_in at) t.ranges) ≡ b → (b ≡ true → instr_of (word_at t.bytes at) ≡ option_and_then instr_of o) → (b ≡ false → o ≡ None) →
    kind_at t at ≡ word_kind t at (option_and_then instr_of o)
unfolding kind_at
kind_of t at true o is same none = cond-true _ _ _ is ∙ ap (word_kind t at) (same refl)
kind_of t at false o is same none = cond-false _ _ _ is ∙ ap (λ o. word_kind t at (option_and_then instr_of o)) (sym (none refl))

not_read : (image : Image) (at : ℕ) → is_word_address image at ≡ false → text_word image at ≡ None
unfolding text_word
not_read image at is = cond-false (is_word_address image at) _ _ is

read_of : (file : List ℕ) (image : Image) → image_of file ≡ Ok image → (at : ℕ) → is_word_address image at ≡ true → (w : ℕ) × (text_word image at ≡ Some w)
read_of file image e at =
    let P : Image → Type 0 = λ i. is_word_address i at ≡ true → (w : ℕ) × (text_word i at ≡ Some w) in
    subst P (contents-are file image e) (is_read file image e at)

pub kind_stored : KindsAreOfStoredWords
kind_stored file image at e = kind_of (text_of image) at (is_word_address image at) (text_word image at) refl
    (λ is. let r = read_of file image e at is in ap instr_of (word_loaded file image at r.0 e r.1) ∙ ap (option_and_then instr_of) (sym r.1)) (not_read image at)
