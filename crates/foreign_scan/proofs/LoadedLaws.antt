-- The bytes that the segments of an image load.
use Rattle.std.proofs.Common.{◌≡◌, ◌≢◌, ℕ, zero, suc, ◌+◌, ◌-◌, ◌%◌, ◌<◌, ◌≤◌, Bool, true, false, cond, not, ◌&&◌, ◌||◌, ◌⊎◌, inl, inr, List, [], ◌∷◌, length, drop, map, Option, Some, None, Ok, refl, sym, ap, ◌∙◌, subst, arith, add-one}
use Rattle.std.specs.Prelude.{slice_get, slice_range, option_map, nat_lt, nat_le, ◌==◌, All}
use Rattle.std.specs.List.{find, list_all, list_any}
use Rattle.std.proofs.lemmas.Bool.{cases_Bool, cases_eq, and_parts, and_from, cond-true, cond-false, leb-true, ltb-true, lt-ltb, le-leb, eq-eqb}
use Rattle.std.proofs.lemmas.List.{length-map, length-take}
use Rattle.std.proofs.lemmas.List.Elements.{All-head, All-tail}
use Rattle.std.proofs.lemmas.Option.{slice_get-map}
use Rattle.scale_base.specs.declared.ranges.Range.{Range}
use Rattle.scale_base.specs.declared.headers.ProgramHeader.{ProgramHeader}
use Rattle.scale_base.specs.Bytes.{byte_at}
use Rattle.scale_base.specs.Image.{Image, LoadSegment, image_of, contents, segment_of, loaded_headers, loaded_byte, byte_in, segment_byte, covers, is_zeroed, is_in, is_word_address, is_fit, has_key, is_keyed_place, is_plain_place, memory_range, stack}
use Rattle.scale_base.specs.Spans.{ends_by, overlap}
use Rattle.scale_base.specs.Layout.{layout_of, in_text}
use Rattle.scale_base.proofs.Laws.{contents-are}
use Rattle.machine_laws.proofs.Laws.{found_in, mapped_from, segments_of, IsTextRange, text_ranges_kept}
use Rattle.foreign_scan.specs.Least.{IsInRanges, file_range}
use Rattle.foreign_scan.specs.Scanned.{IsOddByte}

-- ---- the first segment that covers an address

find_suc : {A : Type 0} (p : A → Bool) (xs : List A) (k : ℕ) (x : A) → slice_get xs k ≡ Some x → find p (drop k xs) ≡ cond (p x) (Some x) (find p (drop (suc k) xs))
find_suc p [] k x e = absurd cc
find_suc p (y ∷ ys) zero x e = let same : y ≡ x = cc in ap (λ z. cond (p z) (Some z) (find p ys)) same
find_suc p (y ∷ ys) (suc k) x e = find_suc p ys k x e

pub find_more : {A : Type 0} (p : A → Bool) (xs : List A) (k : ℕ) (x : A) → slice_get xs k ≡ Some x → find p (drop k xs) ≡ cond (p x) (Some x) (find p (drop (k + 1) xs))
find_more p xs k x e = rw add-one (find_suc p xs k x e)

drop_past : {A : Type 0} (xs : List A) (k : ℕ) → length xs ≤ k → drop k xs ≡ []
drop_past [] zero le = refl
drop_past [] (suc k) le = refl
drop_past (x ∷ xs) zero le = absurd (omega (arith, le))
drop_past (x ∷ xs) (suc k) le = drop_past xs k (omega (arith, le))

pub loaded_none : (image : Image) (at k : ℕ) → length image.segments ≤ k → find (covers at) (drop k image.segments) ≡ find (covers at) image.segments → loaded_byte image at ≡ 0
unfolding loaded_byte
loaded_none image at k done same = ap (byte_in at) (sym same ∙ ap (find (covers at)) (drop_past image.segments k done))

pub loaded_some : (image : Image) (at k : ℕ) (s : LoadSegment) → slice_get image.segments k ≡ Some s → covers at s ≡ true → find (covers at) (drop k image.segments) ≡ find (covers at) image.segments → loaded_byte image at ≡ segment_byte at s
unfolding loaded_byte
loaded_some image at k s there here same =
    ap (byte_in at) (sym same ∙ (find_more (covers at) image.segments k s there ∙ cond-true (covers at s) (Some s) (find (covers at) (drop (k + 1) image.segments)) here))

pub loaded_more : (image : Image) (at k : ℕ) (s : LoadSegment) → slice_get image.segments k ≡ Some s → covers at s ≡ false → find (covers at) (drop k image.segments) ≡ find (covers at) image.segments
    → find (covers at) (drop (k + 1) image.segments) ≡ find (covers at) image.segments
loaded_more image at k s there off same = sym (cond-false (covers at s) (Some s) (find (covers at) (drop (k + 1) image.segments)) off) ∙ (sym (find_more (covers at) image.segments k s there) ∙ same)

-- ---- a byte that isn't 0 is one of a file part

found_place : {A : Type 0} (p : A → Bool) (xs : List A) (x : A) → find p xs ≡ Some x → (k : ℕ) × (k < length xs) × (slice_get xs k ≡ Some x) × (p x ≡ true)
found_place p [] x e = absurd cc
found_place p (y ∷ ys) x e =
    elim (found_in (p y) x y (find p ys) e) [
      | inl on ↦ (0, omega arith, ap Some on.1, ap p (sym on.1) ∙ on.0)
      | inr off ↦ let r = found_place p ys x off.1 in (suc r.0, omega (arith, r.1), r.2, r.3)
    ]

in_file : (at : ℕ) (s : LoadSegment) → segment_byte at s ≢ 0 → at - s.from < length s.file
in_file at s some =
    elim (cases_Bool (nat_lt (at - s.from) (length s.file) && not (is_zeroed (s.file_at + (at - s.from))))) [
      | inl on ↦ ltb-true (at - s.from) (length s.file) (and_parts (nat_lt (at - s.from) (length s.file)) (not (is_zeroed (s.file_at + (at - s.from)))) on).0
      | inr off ↦ absurd (some (cond-false (nat_lt (at - s.from) (length s.file) && not (is_zeroed (s.file_at + (at - s.from)))) (byte_at s.file (at - s.from)) 0 off))
    ]

byte_in_parts : (segments : List LoadSegment) (at : ℕ) (o : Option LoadSegment) → find (covers at) segments ≡ o → byte_in at o ≢ 0 → IsInRanges (map file_range segments) (length (map file_range segments)) at
byte_in_parts segments at None e some = absurd (some refl)
byte_in_parts segments at (Some s) e some =
    let place = found_place (covers at) segments s e in
    let span = and_parts (nat_le s.from at) (nat_lt at (s.from + s.len)) place.3 in
    let low : s.from ≤ at = leb-true s.from at span.0 in
    let high : at - s.from < length s.file = in_file at s some in
    let size = length-map segments file_range in
    let within = place.1 in (
      place.0,
      file_range s,
      omega (arith, size, within),
      slice_get-map file_range segments place.0 ∙ ap (option_map file_range) place.2,
      (low, omega (arith, low, high)),
    )

in_parts : (image : Image) (at : ℕ) → loaded_byte image at ≢ 0 → IsInRanges (map file_range image.segments) (length (map file_range image.segments)) at
unfolding loaded_byte
in_parts image at some = byte_in_parts image.segments at (find (covers at) image.segments) refl some

-- an odd byte is in a file part of one of the images
pub odd_in_some : (original foreign : Image) (a : ℕ) → IsOddByte original foreign a
    → IsInRanges (map file_range foreign.segments) (length (map file_range foreign.segments)) a ⊎ IsInRanges (map file_range original.segments) (length (map file_range original.segments)) a
odd_in_some original foreign a odd =
    elim (cases_eq (loaded_byte foreign a) 0) [
      | inr some ↦ inl (in_parts foreign a some)
      | inl none ↦ inr (in_parts original a (λ zero_too. odd.differs (none ∙ sym zero_too)))
    ]

-- ---- the file parts of accepted images

all_at : {A : Type 0} (p : A → Bool) (xs : List A) (k : ℕ) (x : A) → list_all p xs ≡ true → slice_get xs k ≡ Some x → p x ≡ true
all_at p [] k x all e = absurd cc
all_at p (y ∷ ys) zero x all e = let same : y ≡ x = cc in subst (λ z. p z ≡ true) same (and_parts (p y) (list_all p ys) all).0
all_at p (y ∷ ys) (suc k) x all e = all_at p ys k x (and_parts (p y) (list_all p ys) all).1 e

fit_below : (h : ProgramHeader) → is_fit h ≡ true → (h.p_filesz ≤ h.p_memsz) × (h.p_vaddr + h.p_memsz ≤ 0xFFFFF800)
fit_below h fit =
    let a = and_parts (nat_le h.p_filesz h.p_memsz) (cond (has_key h) (is_keyed_place h) (is_plain_place h)) fit in (
      leb-true h.p_filesz h.p_memsz a.0,
      elim (cases_Bool (has_key h)) [
        | inl key ↦
            let place : is_keyed_place h ≡ true = sym (cond-true (has_key h) (is_keyed_place h) (is_plain_place h) key) ∙ a.1 in
            let b = and_parts ((h.p_flags == 0x00100005) && (h.p_vaddr % 4096 == 0) && (h.p_filesz == h.p_memsz) && nat_le h.p_memsz 4194304 && ends_by 0xFFFFF800 (memory_range h)) (not (overlap (memory_range h) stack)) place in
            let c = and_parts ((h.p_flags == 0x00100005) && (h.p_vaddr % 4096 == 0) && (h.p_filesz == h.p_memsz) && nat_le h.p_memsz 4194304) (ends_by 0xFFFFF800 (memory_range h)) b.0 in
            leb-true (h.p_vaddr + h.p_memsz) 0xFFFFF800 c.1
        | inr plain ↦
            let place : is_plain_place h ≡ true = sym (cond-false (has_key h) (is_keyed_place h) (is_plain_place h) plain) ∙ a.1 in
            let b = and_parts (ends_by 0xFF000000 (memory_range h)) (not (overlap (memory_range h) stack)) place in
            let c = leb-true (h.p_vaddr + h.p_memsz) 0xFF000000 b.0 in
            omega (arith, c)
      ],
    )

slice_short : (file : List ℕ) (from len : ℕ) → length (slice_range file from (from + len)) ≤ len
slice_short file from len = let cut = length-take (from + len - from) (drop from file) in omega (arith, cut)

part_of_header : (file : List ℕ) (h : ProgramHeader) → is_fit h ≡ true → (segment_of file h).from + length (segment_of file h).file ≤ 0xFFFFF800
part_of_header file h fit = let f = fit_below h fit in let short = slice_short file h.p_offset h.p_filesz in omega (arith, f.0, f.1, short)

headers_fit : (file : List ℕ) (image : Image) (k : ℕ) (s : LoadSegment) → image_of file ≡ Ok image → slice_get (contents file).segments k ≡ Some s → s.from + length s.file ≤ 0xFFFFF800
unfolding contents
headers_fit file image k s ok there =
    let hs = loaded_headers file in
    let h = mapped_from (segment_of file) (slice_get hs k) s (sym (slice_get-map (segment_of file) hs k) ∙ there) in
    subst (λ (t : LoadSegment). t.from + length t.file ≤ 0xFFFFF800) h.2 (part_of_header file h.0 (all_at is_fit hs k h.0 (segments_of file image ok).fit h.1))

-- the file part of each segment of an image ends below 2^32
pub part_fits : (file : List ℕ) (image : Image) (k : ℕ) (s : LoadSegment) → image_of file ≡ Ok image → slice_get image.segments k ≡ Some s → s.from + length s.file ≤ 0xFFFFF800
part_fits file image k s ok =
    let P : Image → Type 0 = λ i. slice_get i.segments k ≡ Some s → s.from + length s.file ≤ 0xFFFFF800 in
    subst P (contents-are file image ok) (headers_fit file image k s ok)

-- ---- the text, whose ranges are of whole words

word_is_in : (r : Range) (at : ℕ) → IsTextRange r → is_in (at - at % 4) r ≡ is_in at r
word_is_in r at h =
    let first = h.first in
    let last = h.last in
    elim (cases_Bool (is_in at r)) [
      | inl on ↦
          let b = and_parts (nat_le r.from at) (nat_lt at r.to) on in
          let low = leb-true r.from at b.0 in
          let high = ltb-true at r.to b.1 in
          and_from (nat_le r.from (at - at % 4)) (nat_lt (at - at % 4) r.to) (le-leb r.from (at - at % 4) (omega (arith, low, first))) (lt-ltb (at - at % 4) r.to (omega (arith, high))) ∙ sym on
      | inr off ↦
          let word : is_in (at - at % 4) r ≡ false = not_in r at first last off in
          word ∙ sym off
    ]
  where
    not_in : (r : Range) (at : ℕ) → r.from % 4 ≡ 0 → r.to % 4 ≡ 0 → is_in at r ≡ false → is_in (at - at % 4) r ≡ false
    not_in r at first last off =
        elim (cases_Bool (is_in (at - at % 4) r)) [
          | inr fails ↦ fails
          | inl holds ↦
              let b = and_parts (nat_le r.from (at - at % 4)) (nat_lt (at - at % 4) r.to) holds in
              let low = leb-true r.from (at - at % 4) b.0 in
              let high = ltb-true (at - at % 4) r.to b.1 in
              let on = and_from (nat_le r.from at) (nat_lt at r.to) (le-leb r.from at (omega (arith, low))) (lt-ltb at r.to (omega (arith, high, last))) in
              absurd (let bad : true ≡ false = sym on ∙ off in cc)
        ]

word_in_any : (ranges : List Range) (at : ℕ) → All IsTextRange ranges → list_any (is_in (at - at % 4)) ranges ≡ list_any (is_in at) ranges
word_in_any [] at all = refl
word_in_any (r ∷ ranges) at all =
    ap (λ b. b || list_any (is_in (at - at % 4)) ranges) (word_is_in r at (All-head IsTextRange r ranges all))
    ∙ ap (λ b. is_in at r || b) (word_in_any ranges at (All-tail IsTextRange r ranges all))

-- an address is one of the text exactly where its word is
pub text_address : (file : List ℕ) (image : Image) (at : ℕ) → image_of file ≡ Ok image → is_word_address image (at - at % 4) ≡ in_text (layout_of image) at
unfolding layout_of
text_address file image at ok =
    let even : ((at - at % 4) % 4 == 0) ≡ true = eq-eqb ((at - at % 4) % 4) 0 (omega arith) in
    ap (λ b. b && list_any (is_in (at - at % 4)) image.text) even ∙ word_in_any image.text at (text_ranges_kept file image ok)
