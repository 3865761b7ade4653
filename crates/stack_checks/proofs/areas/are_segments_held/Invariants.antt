use Rattle.std.proofs.Common.{ℕ, ◌<◌, get_or}
use Rattle.scale_base.specs.Image.{LoadSegment, addresses_of}
use Rattle.stack_checks.specs.Checked.{IsSpanIn}
use Rattle.stack_checks.proofs.areas.are_segments_held.Given as goal

abbrev pub invariant-loop-k : goal.invariant-loop-k
invariant-loop-k l = (i : ℕ) (other : LoadSegment) → i < l.k → IsSpanIn l.areas (addresses_of (get_or l.view.segments i other))
