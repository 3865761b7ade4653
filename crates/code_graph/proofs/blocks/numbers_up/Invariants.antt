use Rattle.code_graph.specs.Assembling.{AreUp}
use Rattle.code_graph.proofs.blocks.numbers_up.Given as goal

abbrev pub invariant-loop-k : goal.invariant-loop-k
invariant-loop-k l = AreUp l.k l.flags l.numbers.items
