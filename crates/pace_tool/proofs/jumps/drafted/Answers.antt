use Rattle.std.proofs.Common.{ℕ, ap, ◌∙◌}
use Rattle.std.specs.Prelude.{Vec}
use Rattle.std.specs.declared.alloc.Global.{Global}
use Rattle.std.proofs.lemmas.Result.{err_from_is_err_and}
use Rattle.jump_drafts.specs.declared.draft.JumpDraft.{JumpDraft}
use Rattle.jump_drafts.specs.Drafted.{AreJumpsDrafted}
use Rattle.jump_drafts.specs.Texts.{jumps_text}
use Rattle.pace_tool.specs.Answer.{DraftsJumps}
use Rattle.pace_tool.specs.Told.{FileOf, written_view}
use Rattle.pace_tool.proofs.Told.{stopped}
use Rattle.pace_tool.proofs.jumps.drafted.Goals as goal

pub returns-in_err-draft : goal.returns-in_err-draft
returns-in_err-draft c =
    let p = err_from_is_err_and c.from_residual.result c.from_residual.ensures.1 in
    rw (p.1, p.2) (stopped (λ (x : JumpDraft). x) written_view c.in_err-draft.field-0.0 (AreJumpsDrafted c.args.image.now)
    (FileOf (DraftsJumps c.args.image.now) jumps_text) c.in_err-draft.ensures (λ r h. h))

pub returns : goal.returns
returns c = (c.in_ok-draft.draft, (c.in_ok-draft.ensures, ap (λ (v : Vec ℕ Global). v.items) c.into_bytes.ensures.value), c.in_ok-text.ensures)
