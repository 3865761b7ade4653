-- What the memory of a stored image with an empty block holds, and its layout.
use Rattle.std.proofs.Common.{◌≡◌, ℕ, ◌+◌, ◌-◌, ◌<◌, ◌≤◌, Bool, true, false, not, cond, ◌&&◌, List, [], ◌∷◌, length, get_or, map, drop, Option, Some, refl, sym, ap, ◌∙◌, arith, inl, inr, ◌⊎◌}
use Rattle.std.specs.Prelude.{nat_le, nat_lt, slice_range}
use Rattle.std.specs.List.{list_all, filter, find}
use Rattle.std.proofs.Math.Path.{fun_ext}
use Rattle.std.proofs.lemmas.Bool.{and_parts, leb-true, le-leb, lt-leb, lt-ltb, ltb-true, le-ltb, cases_lt}
use Rattle.std.proofs.lemmas.List.{get_or-take, get_or-drop}
use Rattle.scale_base.specs.declared.headers.ProgramHeader.{ProgramHeader}
use Rattle.scale_base.specs.Bytes.{byte_at}
use Rattle.scale_base.specs.Spans.{ends_by}
use Rattle.scale_base.specs.Image.{Image, LoadSegment, segment_of, file_part, loaded_headers, contents, is_zeroed, covers, segment_byte, byte_in, loaded_byte}
use Rattle.scale_base.specs.Layout.{part_of, is_plain_segment, layout_of}
use Rattle.stored_laws.specs.StoredView.{over_file, insert_segment, block_segment, stored_view}
use Rattle.stored_laws.proofs.Bytes.{length-slice_range}

-- ---- bytes

-- a byte that isn't loaded as a zero is none of e_phoff, and none of e_phnum
pub off_phoff : (p : ℕ) → is_zeroed p ≡ false → (p < 28) ⊎ (32 ≤ p)
off_phoff p e = elim (cases_lt p 28) [
  | inl low ↦ inl low
  | inr from ↦ elim (cases_lt p 32) [
    | inl inside ↦ absurd (let bad : true ≡ false = rw (le-leb 28 p from, lt-ltb p 36 (omega arith)) at e in cc)
    | inr behind ↦ inr behind
  ]
]

pub off_phnum : (p : ℕ) → is_zeroed p ≡ false → (p < 44) ⊎ (46 ≤ p)
off_phnum p e = elim (cases_lt p 44) [
  | inl low ↦ inl low
  | inr from ↦ elim (cases_lt p 46) [
    | inl inside ↦ absurd (let bad : true ≡ false = rw (le-leb 28 p (omega arith), le-ltb p 36 (omega arith), le-leb 44 p from, lt-ltb p 46 inside) at e in cc)
    | inr behind ↦ inr behind
  ]
]

-- the longer file s has the bytes of the file that aren't loaded as zeros
pub record HasBytes (file s : List ℕ) : Type 0 where
  pub longer : length file ≤ length s
  pub same : (p : ℕ) → p < length file → is_zeroed p ≡ false → byte_at s p ≡ byte_at file p

part_byte : (xs : List ℕ) (at n j : ℕ) → j < n → get_or (slice_range xs at (at + n)) j 0 ≡ byte_at xs (at + j)
part_byte xs at n j lt = get_or-take (at + n - at) (drop at xs) j 0 (omega arith) ∙ get_or-drop at xs j 0

segment_same : (file s : List ℕ) → HasBytes file s → (at : ℕ) (h : ProgramHeader) → ends_by (length file) (file_part h) ≡ true → segment_byte at (over_file s (segment_of file h)) ≡ segment_byte at (segment_of file h)
segment_same file s has at h ends =
    let off : ℕ = h.p_offset in
    let n : ℕ = h.p_filesz in
    let j : ℕ = at - h.p_vaddr in
    let within = leb-true (off + n) (length file) ends in
    let longer = has.longer in
    rw (length-slice_range file off n within, length-slice_range s off n (omega arith))
    (value_same (nat_lt j n) (is_zeroed (off + j)) _ _ (λ lt z. let low = ltb-true j n lt in part_byte s off n j low ∙ has.same (off + j) (omega arith) z ∙ sym (part_byte file off n j low)))
  where
    value_same : (b z : Bool) (x y : ℕ) → (b ≡ true → z ≡ false → x ≡ y) → cond (b && not z) x 0 ≡ cond (b && not z) y 0
    value_same true true x y h = refl
    value_same true false x y h = h refl refl
    value_same false z x y h = refl

found_same : (file s : List ℕ) → HasBytes file s → (at : ℕ) (hs : List ProgramHeader) → list_all (λ h. ends_by (length file) (file_part h)) hs ≡ true
    → byte_in at (find (covers at) (map (over_file s) (map (segment_of file) hs))) ≡ byte_in at (find (covers at) (map (segment_of file) hs))
found_same file s has at [] ends = refl
found_same file s has at (h ∷ hs) ends =
    let a = and_parts (ends_by (length file) (file_part h)) (list_all (λ g. ends_by (length file) (file_part g)) hs) ends in
    found_step (covers at (segment_of file h)) (over_file s (segment_of file h)) (segment_of file h) _ _ (segment_same file s has at h a.0) (found_same file s has at hs a.1)
  where
    found_step : (b : Bool) (x y : LoadSegment) (o r : Option LoadSegment) → segment_byte at x ≡ segment_byte at y → byte_in at o ≡ byte_in at r → byte_in at (cond b (Some x) o) ≡ byte_in at (cond b (Some y) r)
    found_step true x y o r e f = e
    found_step false x y o r e f = f

-- one more segment, which the test doesn't take
find_out : (p : LoadSegment → Bool) (xs : List LoadSegment) (s : LoadSegment) → p s ≡ false → find p (insert_segment xs s) ≡ find p xs
find_out p [] s e = rw e refl
find_out p (x ∷ xs) s e = find_step (nat_le s.from x.from) (find_out p xs s e)
  where
    find_step : (b : Bool) → find p (insert_segment xs s) ≡ find p xs → find p (cond b (s ∷ x ∷ xs) (x ∷ insert_segment xs s)) ≡ cond (p x) (Some x) (find p xs)
    find_step true go = rw e refl
    find_step false go = rw go refl

-- an empty segment covers nothing
covers_none : (at base : ℕ) → (nat_le base at && nat_lt at (base + 0)) ≡ false
covers_none at base = elim (cases_lt at base) [
  | inl below ↦ let off : nat_le base at ≡ false = lt-leb base at below in rw off refl
  | inr from ↦ let on : nat_le base at ≡ true = le-leb base at from in let off : nat_lt at (base + 0) ≡ false = le-ltb at (base + 0) (omega arith) in rw (on, off) refl
]

pub bytes_same : (file s : List ℕ) (base start : ℕ) → HasBytes file s → list_all (λ h. ends_by (length file) (file_part h)) (loaded_headers file) ≡ true
    → loaded_byte (stored_view (contents file) s base [] start) ≡ loaded_byte (contents file)
unfolding loaded_byte stored_view contents
bytes_same file s base start has ends = fun_ext (λ at.
    ap (byte_in at) (find_out (covers at) (map (over_file s) (map (segment_of file) (loaded_headers file))) (block_segment file base []) (covers_none at base))
    ∙ found_same file s has at (loaded_headers file) ends)

-- ---- the layout

plain_out : (xs : List LoadSegment) (s : LoadSegment) → is_plain_segment s ≡ false → filter is_plain_segment (insert_segment xs s) ≡ filter is_plain_segment xs
plain_out [] s e = rw e refl
plain_out (x ∷ xs) s e = plain_step (nat_le s.from x.from) (plain_out xs s e)
  where
    plain_step : (b : Bool) → filter is_plain_segment (insert_segment xs s) ≡ filter is_plain_segment xs
        → filter is_plain_segment (cond b (s ∷ x ∷ xs) (x ∷ insert_segment xs s)) ≡ cond (is_plain_segment x) (x ∷ filter is_plain_segment xs) (filter is_plain_segment xs)
    plain_step true go = rw e refl
    plain_step false go = rw go refl

plain_parts : (s : List ℕ) (xs : List LoadSegment) → map part_of (filter is_plain_segment (map (over_file s) xs)) ≡ map part_of (filter is_plain_segment xs)
plain_parts s [] = refl
plain_parts s (x ∷ xs) = parts_step (is_plain_segment x) (plain_parts s xs)
  where
    parts_step : (b : Bool) → map part_of (filter is_plain_segment (map (over_file s) xs)) ≡ map part_of (filter is_plain_segment xs)
        → map part_of (cond b (over_file s x ∷ filter is_plain_segment (map (over_file s) xs)) (filter is_plain_segment (map (over_file s) xs))) ≡ map part_of (cond b (x ∷ filter is_plain_segment xs) (filter is_plain_segment xs))
    parts_step true go = rw go refl
    parts_step false go = go

pub layout_is : (image : Image) (s : List ℕ) (base start : ℕ) → layout_of (stored_view image s base [] start) ≡ record (layout_of image) { keyed = Some (record { from = base; to = base }) }
unfolding layout_of stored_view
layout_is image s base start =
    let z : base + 0 ≡ base = omega arith in
    rw (plain_out (map (over_file s) image.segments) (block_segment image.file base []) refl, plain_parts s image.segments, z) refl
