use Rattle.std.proofs.Common.{ℕ, ◌<◌, get_or}
use Rattle.scale_base.specs.Image.{LoadSegment}
use Rattle.stack_checks.specs.Checked.{IsUnwrittenIn}
use Rattle.stack_checks.proofs.fixed.is_unwritten.Given as goal

abbrev pub invariant-loop-k : goal.invariant-loop-k
invariant-loop-k l = (i : ℕ) (other : LoadSegment) → i < l.k → IsUnwrittenIn (get_or l.view.segments i other) l.part
