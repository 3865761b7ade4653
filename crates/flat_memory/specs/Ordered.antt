-- Scaffold: ranges in order, which a search by halving may use.
use Rattle.std.specs.Prelude.{◌≡◌, ℕ, ◌+◌, ◌<◌, ◌≤◌, Bool, ◌&&◌, ◌||◌, true, nat_le, List, length, map, slice_index_or}
use Rattle.scale_base.specs.declared.ranges.Range.{Range}
use Rattle.scale_base.specs.declared.ranges.Span.{Span}
use Rattle.scale_base.specs.Spans.{each_pair}
use Rattle.flat_memory.specs.Blocks.{span_of, holds}
use Rattle.flat_memory.specs.declared.block.Block.{Block}

-- b begins at or above the start of a, and at or above its end unless b is empty
abbrev pub comes_before : Span → Span → Bool
comes_before a b = nat_le a.from b.from && (nat_le b.len 0 || nat_le (a.from + a.len) b.from)

abbrev pub are_ordered : List Block → Bool
are_ordered blocks = each_pair comes_before (map span_of blocks)

-- so many of the blocks begin at or below the address
pub record IsPlaceOf (blocks : List Block) (at place : ℕ) : Type 0 where
  pub bound : place ≤ length blocks
  pub below : (k : ℕ) (d : Block) → k < place → (slice_index_or blocks k d).from ≤ at
  pub above : (k : ℕ) (d : Block) → place ≤ k → k < length blocks → at < (slice_index_or blocks k d).from

-- the block of this number has the address
pub record HasBlock (blocks : List Block) (at k : ℕ) : Type 0 where
  pub inside : k < length blocks
  pub here : (d : Block) → holds at (slice_index_or blocks k d) ≡ true

-- b begins at or above the start and the end of a
abbrev pub range_before : Range → Range → Bool
range_before a b = nat_le a.from b.from && nat_le a.to b.from

abbrev pub is_ordered_text : List Range → Bool
is_ordered_text text = each_pair range_before text
