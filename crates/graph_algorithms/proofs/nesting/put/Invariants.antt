use Rattle.std.proofs.Common.{◌≡◌, length}
use Rattle.graph_algorithms.specs.NestingPass.{ArePut}
use Rattle.graph_algorithms.proofs.nesting.put.Given as goal

abbrev pub invariant-loop-node : goal.invariant-loop-node
invariant-loop-node l = record {
  size : length l.innermost ≡ length l.fn.innermost;
  put : ArePut l.fn.innermost l.innermost l.body l.node-index l.number;
}
