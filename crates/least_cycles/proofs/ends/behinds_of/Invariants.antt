use Rattle.std.proofs.Common.{◌≤◌, length}
use Rattle.least_cycles.specs.Ends.{AreBehind}
use Rattle.least_cycles.proofs.ends.behinds_of.Given as goal

abbrev pub invariant-loop-i : goal.invariant-loop-i
invariant-loop-i l = record {
  within : l.i ≤ length l.graph.order;
  behind : AreBehind l.graph l.walks.returns.items l.walks.exits.items l.i l.behind.items;
}

abbrev pub decreases-loop-i : goal.decreases-loop-i
decreases-loop-i l = l.i
