-- Scaffold: what blocks stand for: bytes, and parts of a layout.
use Rattle.std.specs.Prelude.{◌≡◌, ℕ, Bool, ◌-◌, ◌&&◌, not, List, [], ◌∷◌, map, filter, slice_index, slice_set, vec_len, if◌then◌else◌}
use Rattle.scale_base.specs.declared.ranges.Span.{Span}
use Rattle.scale_base.specs.Spans.{in_span}
use Rattle.scale_base.specs.Elf.{has}
use Rattle.scale_base.specs.Image.{KEY, PF_W, PF_R}
use Rattle.scale_base.specs.Layout.{Part}
use Rattle.flat_memory.specs.declared.block.Block.{Block}

abbrev pub span_of : Block → Span
span_of b = record { from = b.from; len = vec_len b.bytes }

-- whether the address is one of the block's
abbrev pub holds : ℕ → Block → Bool
holds at b = in_span (span_of b) at

abbrev pub is_plain_block : Block → Bool
is_plain_block b = not (has b.flags KEY)

abbrev pub block_part : Block → Part
block_part b = record { span = span_of b; readable = has b.flags PF_R; writable = has b.flags PF_W }

-- the parts of a layout that the blocks without the key are
abbrev pub parts_of : List Block → List Part
parts_of bs = map block_part (filter is_plain_block bs)

-- a block without the key has the flag
abbrev pub allows : ℕ → Block → Bool
allows flag b = is_plain_block b && has b.flags flag

-- and it has the address
abbrev pub may_be_used : ℕ → ℕ → Block → Bool
may_be_used flag at b = allows flag b && holds at b

-- the block with another byte at one address
pub record HasValue (old new : Block) (at value : ℕ) : Type 0 where
  pub items : new.bytes.items ≡ slice_set old.bytes.items (at - old.from) value
  pub span : span_of new ≡ span_of old
  pub flags : new.flags ≡ old.flags

-- the byte of the first block that has the address
unfoldable pub byte_in_blocks : List Block → ℕ → ℕ
byte_in_blocks [] at = 0
byte_in_blocks (b ∷ bs) at = if holds at b then slice_index b.bytes.items (at - b.from) else byte_in_blocks bs at
