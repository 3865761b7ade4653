use Rattle.std.proofs.Common.{inl, inr}
use Rattle.std.proofs.lemmas.Result.{err_from_is_err_and}
use Rattle.scale_base.specs.Image.{image_of}
use Rattle.loop_drafts.specs.declared.drafted.LoopDraft.{LoopDraft}
use Rattle.loop_drafts.specs.Drafted.{IsDrafted, IsDraftedImage}
use Rattle.loop_drafts.proofs.Stopping.{stops_as, answers_by}
use Rattle.loop_drafts.proofs.drafting.draft_loops.Goals as goal

pub returns-in_err-view-clause-drafted : goal.returns-in_err-view-clause-drafted
returns-in_err-view-clause-drafted g c =
    let p = err_from_is_err_and c.from_residual.result c.from_residual.ensures.1 in
    rw (p.1, p.2) (stops_as (λ (draft : LoopDraft). draft) c.in_err-view.field-0.0 (image_of c.args.image.now) (IsDrafted c.args.image.now c.args.inputs.now.most) c.in_err-view.ensures (λ r e. inl e))

pub returns-clause-drafted : goal.returns-clause-drafted
returns-clause-drafted g c =
    answers_by (λ (draft : LoopDraft). draft) c.draft_image.result (IsDrafted c.args.image.now c.args.inputs.now.most) (IsDraftedImage c.in_ok-view.view c.args.inputs.now.most) c.draft_image.ensures.drafted (λ x h. (c.in_ok-view.view, c.in_ok-view.ensures, h))
    (λ r h. inr (c.in_ok-view.view, c.in_ok-view.ensures, h))
