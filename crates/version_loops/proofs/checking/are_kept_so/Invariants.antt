use Rattle.std.proofs.Common.{ℕ, ◌≡◌, ◌<◌, Option, Some}
use Rattle.std.specs.Prelude.{slice_get}
use Rattle.loop_file.specs.Kept.{note_at}
use Rattle.copy_checks.specs.declared.covering.CopyReason.{CopyReason}
use Rattle.version_loops.specs.Checked.{IsKeptSo}
use Rattle.version_loops.proofs.checking.are_kept_so.Given as goal

abbrev pub invariant-loop-k : goal.invariant-loop-k
invariant-loop-k l = (k : ℕ) → k < l.k → (reason : Option CopyReason) → slice_get l.reasons k ≡ Some reason → IsKeptSo reason (note_at l.drafted k) (note_at l.notes k)
