use Rattle.flat_memory.proofs.OrderLaws.{Searched}
use Rattle.flat_memory.proofs.block_list.find_block.Given as goal

abbrev pub invariant-loop-k : goal.invariant-loop-k
invariant-loop-k l = Searched l.blocks l.at l.k

abbrev pub decreases-loop-k : goal.decreases-loop-k
decreases-loop-k l = l.k
