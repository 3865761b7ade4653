use Rattle.std.proofs.Common.{◌≡◌, subst, Err}
use Rattle.std.specs.Prelude.{IfOk}
use Rattle.scale_base.specs.Answer.{AnswersBy}
use Rattle.scale_base.specs.declared.refusal.Stop.{Stop}
use Rattle.scaler.specs.Held.{IsHeld}
use Rattle.host_runs.specs.Answer as answer
use Rattle.host_runs.specs.Views.{files_view, reply_view}
use Rattle.pace_fit.specs.declared.preparing.Prepared.{Prepared}
use Rattle.pace_fit.specs.Finding.{IsPreparing}
use Rattle.pace_tool.proofs.Given.{refusal_told}
use Rattle.pace_tool.proofs.fit.fit_reply.Goals as goal

pub returns-in-Err-Refused : goal.returns-in-Err-Refused
returns-in-Err-Refused g c =
    let files = c.args.files.now in
    let refused : IsHeld files.image.now files.machine.now files.loops.now (Err c.in-Err-Refused.refusal) =
    subst (λ (stop : Stop). AnswersBy {X = Prepared} {Y = Prepared} (λ p. p) (Err stop) (IsPreparing files.image.now files.machine.now files.loops.now (files_view c.args.inputs.now.items.now))) c.in-Err-Refused.field-0-is c.in-Err-Refused.ensures in
    let told : IfOk c.refused.result (λ reply. reply_view reply ≡ answer.refused c.in-Err-Refused.refusal) = rw c.in-Err-Refused.field-0-is at c.refused.ensures in
    refusal_told files.image.now files.machine.now files.loops.now (files_view c.args.inputs.now.items.now) c.args.out.now c.in-Err-Refused.refusal c.refused.result refused told
