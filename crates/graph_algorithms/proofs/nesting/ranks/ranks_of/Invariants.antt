use Rattle.graph_algorithms.specs.Nesting.{bodies_of}
use Rattle.graph_algorithms.specs.NestingPass.{AreRanks}
use Rattle.graph_algorithms.proofs.nesting.ranks.ranks_of.Given as goal

abbrev pub invariant-loop-number : goal.invariant-loop-number
invariant-loop-number l = AreRanks (bodies_of l.bodies) l.ranks.items l.number
