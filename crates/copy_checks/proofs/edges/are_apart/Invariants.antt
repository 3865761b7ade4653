use Rattle.std.proofs.Common.{ℕ, ◌<◌}
use Rattle.copy_checks.specs.Checked.{IsApart}
use Rattle.copy_checks.proofs.edges.are_apart.Given as goal

abbrev pub invariant-loop-k : goal.invariant-loop-k
invariant-loop-k l = (k : ℕ) → k < l.k → IsApart l.case k
