use Rattle.std.proofs.Common.{inl, inr}
use Rattle.std.proofs.lemmas.Result.{err_from_is_err_and}
use Rattle.scale_base.specs.Image.{image_of}
use Rattle.jump_drafts.specs.declared.draft.JumpDraft.{JumpDraft}
use Rattle.jump_drafts.specs.Drafted.{AreJumpsDrafted, IsImageDrafted}
use Rattle.jump_drafts.proofs.Stopping.{stops_as, answers_by}
use Rattle.jump_drafts.proofs.drafting.draft_jumps.Goals as goal

pub returns-in_err-view : goal.returns-in_err-view
returns-in_err-view c =
    let p = err_from_is_err_and c.from_residual.result c.from_residual.ensures.1 in
    rw (p.1, p.2) (stops_as (λ (draft : JumpDraft). draft) c.in_err-view.field-0.0 (image_of c.args.image.now) (AreJumpsDrafted c.args.image.now) c.in_err-view.ensures (λ r e. inl e))

pub returns : goal.returns
returns c =
    answers_by (λ (draft : JumpDraft). draft) c.draft_image.result (AreJumpsDrafted c.args.image.now) (IsImageDrafted c.in_ok-view.view) c.draft_image.ensures (λ x h. (c.in_ok-view.view, c.in_ok-view.ensures, h))
    (λ r h. inr (c.in_ok-view.view, c.in_ok-view.ensures, h))
