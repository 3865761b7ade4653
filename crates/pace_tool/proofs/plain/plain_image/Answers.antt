use Rattle.std.proofs.Common.{Ok, Err, refl}
use Rattle.std.proofs.lemmas.Result.{err_from_is_err_and}
use Rattle.jump_drafts.specs.declared.draft.JumpDraft.{JumpDraft}
use Rattle.jump_drafts.specs.Drafted.{AreJumpsDrafted}
use Rattle.pace_tool.specs.InOne.{IsPlainFor, MakesPlain, has_jumps}
use Rattle.pace_tool.specs.Told.{written_view}
use Rattle.pace_tool.proofs.Told.{answered, stopped}
use Rattle.pace_tool.proofs.plain.plain_image.Goals as goal

pub returns-in_err-draft : goal.returns-in_err-draft
returns-in_err-draft c =
    let p = err_from_is_err_and c.from_residual.result c.from_residual.ensures.1 in
    rw (p.1, p.2) (stopped (λ (x : JumpDraft). x) written_view c.in_err-draft.field-0.0 (AreJumpsDrafted c.args.image.now) (MakesPlain c.args.image.now) c.in_err-draft.ensures (λ r h. (Err r, h, refl)))

pub returns : goal.returns
returns c =
    answered written_view c.plain_by.result (IsPlainFor (has_jumps c.in_ok-draft.draft) c.args.image.now c.in_ok-draft.draft) (MakesPlain c.args.image.now) c.plain_by.ensures (λ r h. (Ok c.in_ok-draft.draft, c.in_ok-draft.ensures, h))
