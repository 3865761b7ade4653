use Rattle.std.proofs.Common.{ℕ, ◌<◌}
use Rattle.copy_checks.specs.Checked.{IsKeptSo}
use Rattle.copy_checks.proofs.kept.are_edges_kept.Given as goal

abbrev pub invariant-loop-e : goal.invariant-loop-e
invariant-loop-e l = (e : ℕ) → e < l.e → IsKeptSo l.code l.meant e
