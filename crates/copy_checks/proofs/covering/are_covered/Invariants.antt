use Rattle.std.proofs.Common.{ℕ, ◌<◌, ◌≡◌, Option, Some}
use Rattle.std.specs.Prelude.{slice_get}
use Rattle.loop_file.specs.Kept.{note_at}
use Rattle.copy_checks.specs.declared.covering.CopyReason.{CopyReason}
use Rattle.copy_checks.specs.Checked.{IsCovered}
use Rattle.copy_checks.proofs.covering.are_covered.Given as goal

abbrev pub invariant-loop-k : goal.invariant-loop-k
invariant-loop-k l = (k : ℕ) → k < l.k → (reason : Option CopyReason) × (slice_get l.reasons k ≡ Some reason) × IsCovered l.code (note_at l.notes k) l.olds reason
