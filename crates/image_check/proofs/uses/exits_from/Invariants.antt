use Rattle.std.proofs.Common.{◌≡◌, ◌≤◌}
use Rattle.cost_theory.specs.Graph.{sum_below}
use Rattle.image_check.specs.Uses.{exit_from}
use Rattle.image_check.proofs.uses.exits_from.Given as goal

abbrev pub invariant-loop-e : goal.invariant-loop-e
invariant-loop-e l = record {
  total : l.found ≡ sum_below l.e (exit_from l.graph l.tree l.k l.n);
  few : l.found ≤ l.e;
}
