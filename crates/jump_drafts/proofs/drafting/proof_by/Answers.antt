use Rattle.std.proofs.Common.{ℕ, List, subst}
use Rattle.std.proofs.lemmas.Result.{IfOk-weaker}
use Rattle.jump_drafts.specs.Drafted.{IsImageProved}
use Rattle.jump_drafts.proofs.Proved.{file_proved}
use Rattle.jump_drafts.proofs.drafting.proof_by.Goals as goal

pub returns-in-Ok : goal.returns-in-Ok
returns-in-Ok c =
    let given = rw (c.file-image.ensures.bytes, c.as_bytes.ensures.value) at c.in-Ok.ensures.given in
    IfOk-weaker c.proof_of.result _ _
    (λ p h. file_proved c.args.view.now c.args.file.now c.in-Ok.bytes.items c.in-Ok.field-0-1 c.args.notes.now p given (subst (λ (b : List ℕ). IsImageProved c.args.view.now b c.args.notes.now p) c.deref.ensures.value h)) c.proof_of.ensures
