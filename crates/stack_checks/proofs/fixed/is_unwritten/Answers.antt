use Rattle.std.proofs.Common.{arith, refl, sym}
use Rattle.std.proofs.lemmas.Option.{get_or_from_slice_get}
use Rattle.scale_base.specs.Image.{LoadSegment}
use Rattle.elf_image.specs.Segment.{segment_value}
use Rattle.stack_checks.specs.Checked.{IsUnwrittenIn}
use Rattle.stack_checks.proofs.CellRows.{one_so_far}
use Rattle.stack_checks.proofs.fixed.is_unwritten.Goals as goal

pub loop-k-preserved : goal.loop-k-preserved
loop-k-preserved c = one_so_far (λ (s : LoadSegment). IsUnwrittenIn s c.args.part.now) c.args.view.now.segments c.loop-k.k (segment_value c.segment.result) (omega arith)
    (sym (get_or_from_slice_get c.args.view.now.segments c.loop-k.k (segment_value c.segment.result) (segment_value c.segment.result) c.segment.ensures)) (c.if-not-is_unwritten_in.ensures refl) c.loop-k.invariant
