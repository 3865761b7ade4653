use Rattle.std.proofs.Common.{◌≡◌, length}
use Rattle.graph_algorithms.specs.Nesting.{bodies_of}
use Rattle.graph_algorithms.specs.NestingPass.{IsNestingPass}
use Rattle.graph_algorithms.proofs.nesting.nest_loops.Given as goal

abbrev pub invariant-loop-rank : goal.invariant-loop-rank
invariant-loop-rank l = record {
  nodes : length l.innermost.items ≡ l.count;
  pass : IsNestingPass (bodies_of l.bodies) l.headers l.rank-items l.rank-index l.innermost.items l.parent.items;
}
