-- Scaffold: the image that a stored file is read as.
use Rattle.std.specs.Prelude.{◌≡◌, ℕ, ◌+◌, ◌^◌, ◌<◌, ◌≤◌, length, List, [], ◌∷◌, map, All, IsTrue, nat_le, if◌then◌else◌, Some, None, slice_range}
use Rattle.scale_base.specs.declared.limits.TheConstants.{BLOCK_LIMIT, IMAGE_LIMIT}
use Rattle.scale_base.specs.declared.ranges.Patch.{Patch}
use Rattle.scale_base.specs.Spans.{round_up}
use Rattle.scale_base.specs.Image.{Image, LoadSegment, is_word_address, KEYED_FLAGS}
use Rattle.elf_patch.specs.Stored.{IsStubBase}

-- what may be stored of an image: patches on words of its text, and a block at its base
pub record IsStorable (image : Image) (patches : List Patch) (base : ℕ) (block : List ℕ) (start : ℕ) : Type 0 where
  pub file : length image.file ≤ IMAGE_LIMIT
  pub no_key : image.keyed_segment ≡ None
  pub words : All (λ p. IsTrue (is_word_address image p.at)) patches
  pub place : IsStubBase image (length block) base
  pub block_short : length block ≤ BLOCK_LIMIT
  pub start_small : start < 2 ^ 32

-- a segment with its bytes from another file
abbrev pub over_file : List ℕ → LoadSegment → LoadSegment
over_file file s = record {
  from = s.from;
  len = s.len;
  flags = s.flags;
  file_at = s.file_at;
  file = slice_range file s.file_at (s.file_at + length s.file);
}

-- one more segment, before the first that begins at or above it
abbrev pub insert_segment : List LoadSegment → LoadSegment → List LoadSegment
insert_segment [] s = s ∷ []
insert_segment (x ∷ xs) s = if nat_le s.from x.from then s ∷ x ∷ xs else x ∷ insert_segment xs s

-- the segment of a block at the base, behind an original file
abbrev pub block_segment : List ℕ → ℕ → List ℕ → LoadSegment
block_segment original base block =
    record { from = base; len = length block; flags = KEYED_FLAGS; file_at = round_up 4096 (length original); file = block }

-- the original image over the stored file, with the block as its keyed segment and the level that a run starts at
unfoldable pub stored_view : Image → List ℕ → ℕ → List ℕ → ℕ → Image
stored_view image stored base block start = record {
  file = stored;
  entry = image.entry;
  segments = insert_segment (map (over_file stored) image.segments) (block_segment image.file base block);
  text = image.text;
  keyed_segment = Some (record { range = record { from = base; to = base + length block }; start = start });
}
