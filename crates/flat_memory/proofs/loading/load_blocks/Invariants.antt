use Rattle.std.proofs.Common.{take}
use Rattle.flat_memory.specs.Loaded.{AreBlocksOf}
use Rattle.flat_memory.proofs.loading.load_blocks.Given as goal

abbrev pub invariant-loop-k : goal.invariant-loop-k
invariant-loop-k l = AreBlocksOf (take l.k l.view.segments) l.blocks.items
