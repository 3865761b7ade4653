-- What the accessors of a view answer, by the fields that it keeps.
use Rattle.std.proofs.Common.{◌≡◌, ℕ, zero, suc, ◌+◌, ◌-◌, ◌<◌, ◌≤◌, Bool, true, false, List, [], ◌∷◌, length, get_or, Option, Some, None, refl, ◌∙◌, arith}
use Rattle.std.specs.Prelude.{All, slice_get, option_map, map, find, IfSome, nat_le, cond}
use Rattle.std.proofs.lemmas.Option.{slice_get-get_or}
use Rattle.std.proofs.lemmas.List.{length-map}
use Rattle.scale_base.specs.declared.headers.ProgramHeader.{ProgramHeader}
use Rattle.scale_base.specs.Bytes.{list_word_at}
use Rattle.scale_base.specs.Image.{Image, is_word_address, text_word, file_place, header_has_word, segment_of, loaded_headers, contents}
use Rattle.elf_image.proofs.Booleans.{both_true, le_of}

-- ---- the segments of the image

slice_get-map : {A B : Type 0} (f : A → B) (xs : List A) (k : ℕ) → slice_get (map f xs) k ≡ option_map f (slice_get xs k)
slice_get-map f [] k = refl
slice_get-map f (x ∷ xs) zero = refl
slice_get-map f (x ∷ xs) (suc k) = slice_get-map f xs k

pub length-segments : (file : List ℕ) (segments : List ProgramHeader) → segments ≡ loaded_headers file → length (contents file).segments ≡ length segments
unfolding contents
length-segments file segments e = rw e (length-map (loaded_headers file) (segment_of file))

pub segment_at : (file : List ℕ) (segments : List ProgramHeader) (k : ℕ) (h : ProgramHeader) → segments ≡ loaded_headers file → k < length segments → h ≡ get_or segments k h → slice_get (contents file).segments k ≡ Some (segment_of file h)
unfolding contents
segment_at file segments k h e lt at =
    slice_get-map (segment_of file) (loaded_headers file) k ∙ rw (← e, slice_get-get_or segments k h lt, ← at) refl

header-place : (file : List ℕ) (at : ℕ) (h : ProgramHeader) → h.p_offset + h.p_filesz ≤ length file → header_has_word at h ≡ true → h.p_offset + (at - h.p_vaddr) + 4 ≤ length file
header-place file at h in_file e =
    let a = both_true (nat_le h.p_vaddr at) (nat_le (at + 4) (h.p_vaddr + h.p_filesz)) e in
    omega (arith, le_of _ _ a.0, le_of _ _ a.1, in_file)

place_step : (file : List ℕ) (at : ℕ) (h : ProgramHeader) (b : Bool) (rest : Option ProgramHeader) → h.p_offset + h.p_filesz ≤ length file → header_has_word at h ≡ b
    → IfSome (option_map (λ h. h.p_offset + (at - h.p_vaddr)) rest) (λ place. place + 4 ≤ length file) → IfSome (option_map (λ h. h.p_offset + (at - h.p_vaddr)) (cond b (Some h) rest)) (λ place. place + 4 ≤ length file)
place_step file at h true rest in_file e go = header-place file at h in_file e
place_step file at h false rest in_file e go = go

-- a place of four bytes lies in the file
pub place_within : (file : List ℕ) (segments : List ProgramHeader) (at : ℕ) → All (λ h. h.p_offset + h.p_filesz ≤ length file) segments
    → IfSome (option_map (λ h. h.p_offset + (at - h.p_vaddr)) (find (header_has_word at) segments)) (λ place. place + 4 ≤ length file)
place_within file [] at in_file = tt
place_within file (h ∷ segments) at in_file =
    place_step file at h (header_has_word at h) (find (header_has_word at) segments) (in_file 0 h (omega arith)) refl (place_within file segments at (λ k d lt. in_file (suc k) d (omega arith)))

pub text_word-out : (image : Image) (at : ℕ) → is_word_address image at ≡ false → None ≡ text_word image at
unfolding text_word
text_word-out image at e = rw e refl

pub text_word-in : (image : Image) (at : ℕ) (o : Option ℕ) → is_word_address image at ≡ true → o ≡ option_map (list_word_at image.file) (file_place image.file at) → o ≡ text_word image at
unfolding text_word
text_word-in image at o e is = rw e is
