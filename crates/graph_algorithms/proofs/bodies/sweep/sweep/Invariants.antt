use Rattle.std.proofs.Common.{◌≤◌}
use Rattle.graph_algorithms.specs.Groups.{IsSearched}
use Rattle.graph_algorithms.proofs.bodies.sweep.sweep.Given as goal

abbrev pub invariant-loop-node : goal.invariant-loop-node
invariant-loop-node l = record {
  searched : IsSearched l.edges l.inside l.fn.found l.found l.pending;
  within : l.node ≤ l.edges.count;
}

abbrev pub decreases-loop-node : goal.decreases-loop-node
decreases-loop-node l = l.node
