use Rattle.std.proofs.Common.{◌∙◌, sym}
use Rattle.std.proofs.lemmas.Bool.{cond-true, cond-false}
use Rattle.scale_base.specs.Image as image
use Rattle.elf_image.specs.Segment.{segment_value}
use Rattle.stack_checks.proofs.CellRows.{found_from}
use Rattle.stack_checks.proofs.memory.segment_at.Goals as goal

pub returns-then-has_address : goal.returns-then-has_address
returns-then-has_address c = sym (sym c.loop-k.invariant
    ∙ (found_from (image.covers c.args.at) c.args.view.now.segments c.loop-k.k (segment_value c.segment-segment.result) c.segment-segment.ensures
    ∙ cond-true _ _ _ (sym c.has_address.ensures ∙ c.if-has_address.true)))

pub loop-k-preserved : goal.loop-k-preserved
loop-k-preserved c = sym (found_from (image.covers c.args.at) c.args.view.now.segments c.loop-k.k (segment_value c.segment-segment.result) c.segment-segment.ensures
    ∙ cond-false _ _ _ (sym c.has_address.ensures ∙ c.if-has_address.false)) ∙ c.loop-k.invariant
