use Rattle.std.proofs.Common.{◌≡◌, ◌<◌, ℕ, false}
use Rattle.keep_monitor.proofs.BreakLaws.{is_early_at}
use Rattle.keep_monitor.proofs.steps.first_left.Given as goal

abbrev pub invariant-loop-k : goal.invariant-loop-k
invariant-loop-k l = (j : ℕ) → j < l.k-index → is_early_at l.notes l.turning l.counts l.step j ≡ false
