use Rattle.std.proofs.Common.{ℕ, ◌<◌, ◌≤◌}
use Rattle.worst_cycles.specs.Worst.{by_edge}
use Rattle.worst_cycles.proofs.plan.heaviest.Given as goal

abbrev pub invariant-loop-e : goal.invariant-loop-e
invariant-loop-e l = (d : ℕ) → d < l.e → by_edge l.weights d ≤ l.most
