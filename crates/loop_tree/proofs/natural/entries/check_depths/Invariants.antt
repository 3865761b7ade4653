use Rattle.std.proofs.Common.{ℕ, ◌<◌, ◌≤◌}
use Rattle.loop_tree.specs.Passes.{depth_at}
use Rattle.loop_tree.proofs.natural.entries.check_depths.Given as goal

abbrev pub invariant-loop-k : goal.invariant-loop-k
invariant-loop-k l = (j : ℕ) → j < l.k → depth_at l.headers l.depths j ≤ 16
