use Rattle.std.proofs.Common.{ℕ, List, [], ap, ◌∙◌, refl}
use Rattle.std.proofs.lemmas.Result.{err_from_is_err_and}
use Rattle.scaler.specs.Planned.{IsPlanned}
use Rattle.host_runs.specs.Answer.{Answer, text_answer}
use Rattle.scale_tool.specs.Answer.{text_of_plan}
use Rattle.scale_tool.specs.Views.{plan_view}
use Rattle.host_runs.specs.Views.{reply_view}
use Rattle.scale_tool.proofs.Replies.{told_given, told_stop}
use Rattle.scale_tool.proofs.reply.report_reply.Goals as goal

-- a text alone
abbrev printed : List ℕ → Answer
printed text = record { stores = []; text = text; status = 0 }

pub returns-in_err-plan : goal.returns-in_err-plan
returns-in_err-plan c =
    let p = err_from_is_err_and c.from_residual.result c.from_residual.ensures.1 in
    rw (p.1, p.2) (told_stop plan_view (IsPlanned c.args.files.now.image.now c.args.files.now.machine.now c.args.files.now.loops.now) (text_answer text_of_plan) (λ refusal. refl) c.in_err-plan.field-0.0 c.in_err-plan.ensures.plan)

pub returns : goal.returns
returns c = told_given plan_view (IsPlanned c.args.files.now.image.now c.args.files.now.machine.now c.args.files.now.loops.now) (text_answer text_of_plan) c.in_ok-plan.plan (reply_view c.text_reply.result) c.in_ok-plan.ensures.plan (c.text_reply.ensures ∙ ap printed c.in_ok-text.ensures)
