use Rattle.std.proofs.Common.{ℕ, List, [], ap, ◌∙◌, refl}
use Rattle.std.proofs.lemmas.Result.{err_from_is_err_and}
use Rattle.scale_report.specs.Texts.{survey_text}
use Rattle.power_model.specs.Survey.{survey_view}
use Rattle.input_survey.specs.Surveyed.{IsSurveyed}
use Rattle.host_runs.specs.Answer.{Answer, text_answer}
use Rattle.host_runs.specs.Views.{files_view}
use Rattle.host_runs.specs.Views.{reply_view}
use Rattle.scale_tool.proofs.Replies.{told_given, told_stop}
use Rattle.scale_tool.proofs.reply.survey_reply.Goals as goal

-- a text alone
abbrev printed : List ℕ → Answer
printed text = record { stores = []; text = text; status = 0 }

pub returns-in_err-report : goal.returns-in_err-report
returns-in_err-report g c =
    let p = err_from_is_err_and c.from_residual.result c.from_residual.ensures.1 in
    rw (p.1, p.2) (told_stop survey_view (IsSurveyed c.args.files.now.image.now c.args.files.now.other.now c.args.files.now.machine.now c.args.files.now.loops.now (files_view c.args.inputs.now.items.now)) (text_answer survey_text) (λ refusal. refl) c.in_err-report.field-0.0 c.in_err-report.ensures.survey)

pub returns : goal.returns
returns g c = told_given survey_view (IsSurveyed c.args.files.now.image.now c.args.files.now.other.now c.args.files.now.machine.now c.args.files.now.loops.now (files_view c.args.inputs.now.items.now)) (text_answer survey_text) c.in_ok-report.report (reply_view c.text_reply.result) c.in_ok-report.ensures.survey (c.text_reply.ensures ∙ ap printed c.in_ok-text.ensures)
