-- Scaffold: blocks as they are loaded.
use Rattle.std.specs.Prelude.{◌≡◌, ℕ, ◌+◌, ◌&&◌, not, nat_lt, length, List, [], ◌∷◌, map, vec_len, ⊤, if◌then◌else◌}
use Rattle.std.specs.List.{range_with_len}
use Rattle.scale_base.specs.Bytes.{byte_at}
use Rattle.scale_base.specs.Image.{LoadSegment, is_zeroed}
use Rattle.flat_memory.specs.declared.block.Block.{Block}

-- the byte that a segment loads so many addresses from its start
abbrev pub offset_byte : LoadSegment → ℕ → ℕ
offset_byte s k = if nat_lt k (length s.file) && not (is_zeroed (s.file_at + k)) then byte_at s.file k else 0

-- the block has what the segment loads
pub record IsBlockOf (s : LoadSegment) (b : Block) : Type 0 where
  pub from : b.from ≡ s.from
  pub flags : b.flags ≡ s.flags
  pub len : vec_len b.bytes ≡ s.len
  pub bytes : b.bytes.items ≡ map (offset_byte s) (range_with_len 0 s.len)

-- the blocks are those of the segments, in their order
unfoldable pub AreBlocksOf : List LoadSegment → List Block → Type 0
AreBlocksOf [] [] = ⊤
AreBlocksOf (s ∷ segments) (b ∷ blocks) = IsBlockOf s b × AreBlocksOf segments blocks
AreBlocksOf [] (b ∷ blocks) = ⊥
AreBlocksOf (s ∷ segments) [] = ⊥
