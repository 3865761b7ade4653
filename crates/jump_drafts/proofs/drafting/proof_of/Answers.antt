use Rattle.std.proofs.lemmas.Result.{IfOk-weaker}
use Rattle.jump_drafts.proofs.Proved.{image_proved}
use Rattle.jump_drafts.proofs.drafting.proof_of.Goals as goal

pub returns-in-Ok : goal.returns-in-Ok
returns-in-Ok c = IfOk-weaker c.prove_jumps.result _ _ (λ p h. image_proved c.args.view.now c.args.bytes.now c.in-Ok.lowered c.args.notes.now p c.in-Ok.ensures h) c.prove_jumps.ensures
