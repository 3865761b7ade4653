-- The stored image: where its block stands, and each byte of its file.
use Rattle.std.specs.Prelude.{◌≡◌, ℕ, ◌+◌, ◌-◌, ◌*◌, ◌%◌, ◌≤◌, ◌<◌, List, [], ◌∷◌, ◌++◌, length, map, fold, take, drop, replicate, slice_range, slice_get, Bool, true, ◌==◌, ◌&&◌, not, nat_le, if◌then◌else◌, Option, Some, None}
use Rattle.std.specs.List.{list_any, flat_map, range_with_len, position_or_len}
use Rattle.std.specs.Int.{bytes_low_first}
use Rattle.scale_base.specs.declared.ranges.Span.{Span}
use Rattle.scale_base.specs.declared.ranges.Range.{Range}
use Rattle.scale_base.specs.declared.ranges.Patch.{Patch}
use Rattle.scale_base.specs.Spans.{overlap, round_up}
use Rattle.scale_base.specs.Elf.{e_phoff, e_phnum, program_header, program_headers}
use Rattle.scale_base.specs.Image.{Image, stack, addresses_of, is_load, file_place, KEYED_FLAGS, WINDOW_START, WINDOW_LEN}

-- ---- the base of the block

-- the shadow counters and the port
abbrev pub window : Span
window = record { from = WINDOW_START; len = WINDOW_LEN }

-- so many bytes from the base on touch no loaded segment, not the stack and not the window
abbrev pub is_free : Image → ℕ → ℕ → Bool
is_free image len base = not (list_any (overlap (record { from = base; len = len })) (stack ∷ window ∷ map addresses_of image.segments))

-- the end of the last range of the text
abbrev pub end_in : Option Range → ℕ
end_in None = 0
end_in (Some r) = r.to

abbrev pub text_end : List Range → ℕ
text_end ranges = end_in (slice_get ranges (length ranges - 1))

-- a place for a block
pub record IsPlace (image : Image) (len base : ℕ) : Type 0 where
  pub page : base % 4096 ≡ 0
  pub behind : text_end image.text ≤ base
  pub free : is_free image len base ≡ true

-- the lowest of them
pub record IsStubBase (image : Image) (len base : ℕ) : Type 0 where
  pub place : IsPlace image len base
  pub least : (other : ℕ) → IsPlace image len other → base ≤ other

-- nothing is free from the base up to the end of what it touches
pub record IsBlocked (image : Image) (len base end : ℕ) : Type 0 where
  pub above : base < end
  pub low : end ≤ 8589934592
  pub none : (other : ℕ) → base ≤ other → is_free image len other ≡ true → end ≤ other

-- the first multiple of 4096 from an address on
abbrev pub page_from : ℕ → ℕ
page_from at = round_up 4096 at

-- where the empty block of an image stands that is held at one level
abbrev pub held_base : Image → ℕ
held_base image = page_from (text_end image.text)

-- ---- the stored file

-- the lowest n bytes of a number, the lowest first
abbrev pub little : ℕ → ℕ → List ℕ
little n x = bytes_low_first 0 n x

-- the bytes with these in their place from one on
abbrev pub put : List ℕ → ℕ → List ℕ → List ℕ
put file at bytes = take at file ++ (bytes ++ drop (at + length bytes) file)

abbrev pub put_at : List ℕ → Option ℕ → List ℕ → List ℕ
put_at file None bytes = file
put_at file (Some at) bytes = put file at bytes

-- each patched word replaced in its place
abbrev pub put_patch : List ℕ → List ℕ → Patch → List ℕ
put_patch original file patch = put_at file (file_place original patch.at) (little 4 patch.word)

abbrev pub patched : List ℕ → List Patch → List ℕ
patched file patches = fold (put_patch file) file patches

-- where the block begins
abbrev pub block_start : List ℕ → ℕ
block_start file = round_up 4096 (length file)

-- the original file, changed in the patched words, e_phoff and e_phnum
abbrev pub changed : List ℕ → List Patch → ℕ → List ℕ
changed file patches table_at = put (put (patched file patches) 28 (little 4 table_at)) 44 (little 2 (e_phnum file + 1))

-- the bytes of an original entry of the table, where a PT_PHDR (6) gets p_type 0
abbrev pub entry_bytes : List ℕ → ℕ → List ℕ
entry_bytes file k = slice_range file (e_phoff file + 32 * k) (e_phoff file + 32 * k + 32)

abbrev pub kept_entry : List ℕ → ℕ → List ℕ
kept_entry file k =
    if (program_header file k).p_type == 6 then 0 ∷ 0 ∷ 0 ∷ 0 ∷ drop 4 (entry_bytes file k) else entry_bytes file k

-- those of so many entries from one on
abbrev pub entries : List ℕ → ℕ → ℕ → List ℕ
entries file k n = flat_map (kept_entry file) (range_with_len k n)

-- the entry of a block of so many bytes
abbrev pub block_entry : ℕ → ℕ → ℕ → ℕ → List ℕ
block_entry place base start len =
    flat_map (little 4) (1 ∷ place ∷ base ∷ start ∷ len ∷ len ∷ KEYED_FLAGS ∷ 4096 ∷ [])

-- the number of the first loaded segment at or above the base, or of entries where there is none
abbrev pub keyed_number : List ℕ → ℕ → ℕ
keyed_number file base = position_or_len (λ h. is_load h && nat_le base h.p_vaddr) (program_headers file)

-- the table, with the entry of a block of so many bytes in its place
unfoldable pub stored_table : List ℕ → ℕ → ℕ → ℕ → ℕ → List ℕ
stored_table file place base start len =
    let k = keyed_number file base in
    entries file 0 k ++ block_entry place base start len ++ entries file k (e_phnum file - k)

-- the stored image of a file
unfoldable pub stored_image : List ℕ → List Patch → ℕ → List ℕ → ℕ → List ℕ
stored_image file patches base block start =
    changed file patches (block_start file + length block) ++ replicate (block_start file - length file) 0 ++ block ++ stored_table file
    (block_start file) base start (length block)
