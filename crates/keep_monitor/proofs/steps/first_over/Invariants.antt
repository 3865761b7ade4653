use Rattle.std.proofs.Common.{◌≡◌, ◌<◌, ℕ, false}
use Rattle.keep_monitor.specs.Steps.{is_over}
use Rattle.keep_monitor.proofs.steps.first_over.Given as goal

abbrev pub invariant-loop-header : goal.invariant-loop-header
invariant-loop-header l = (j : ℕ) → j < l.header-index → is_over l.notes l.group l.counts l.source j ≡ false
