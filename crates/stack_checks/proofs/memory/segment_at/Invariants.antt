use Rattle.std.proofs.Common.{◌≡◌, drop}
use Rattle.std.specs.Prelude.{find}
use Rattle.scale_base.specs.Image as image
use Rattle.stack_checks.proofs.memory.segment_at.Given as goal

abbrev pub invariant-loop-k : goal.invariant-loop-k
invariant-loop-k l = find (image.covers l.at) (drop l.k l.view.segments) ≡ find (image.covers l.at) l.view.segments
