use Rattle.std.proofs.Common.{◌*◌}
use Rattle.flat_memory.specs.Lists.{list_bytes}
use Rattle.image_check.specs.LastRows.{words_from, AreLastBefore, AreBlocks}
use Rattle.image_check.proofs.last_rows.blocks_of.Given as goal

abbrev pub invariant-loop-b : goal.invariant-loop-b
invariant-loop-b l = record {
  blocks : AreBlocks (words_from (list_bytes l.memory) l.first) l.b l.blocks.items;
  places : AreLastBefore (words_from (list_bytes l.memory) l.first) (64 * l.b) l.places;
}
