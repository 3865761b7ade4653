use Rattle.std.proofs.Common.{arith, refl, sym}
use Rattle.std.proofs.lemmas.Option.{get_or_from_slice_get}
use Rattle.scale_base.specs.Image.{LoadSegment, addresses_of}
use Rattle.elf_image.specs.Segment.{segment_value}
use Rattle.stack_checks.specs.Checked.{IsSpanIn}
use Rattle.stack_checks.proofs.CellRows.{one_so_far}
use Rattle.stack_checks.proofs.areas.are_segments_held.Goals as goal

pub loop-k-preserved : goal.loop-k-preserved
loop-k-preserved c = one_so_far (λ (s : LoadSegment). IsSpanIn c.args.areas.now (addresses_of s)) c.args.view.now.segments c.loop-k.k (segment_value c.segment.result) (omega arith)
    (sym (get_or_from_slice_get c.args.view.now.segments c.loop-k.k (segment_value c.segment.result) (segment_value c.segment.result) c.segment.ensures)) (c.if-not-is_segment_held.ensures refl) c.loop-k.invariant
