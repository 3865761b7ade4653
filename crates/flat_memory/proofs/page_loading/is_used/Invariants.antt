use Rattle.flat_memory.proofs.UsedLaws.{Unused}
use Rattle.flat_memory.proofs.page_loading.is_used.Given as goal

abbrev pub invariant-loop-block : goal.invariant-loop-block
invariant-loop-block l = Unused l.list.blocks.items l.from l.last l.block-index
