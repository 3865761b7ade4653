use Rattle.std.proofs.Common.{refl}
use Rattle.std.proofs.lemmas.Result.{err_from_is_err_and}
use Rattle.scale_report.specs.Texts.{tuned_text}
use Rattle.gain_tuner.specs.Choice.{IsTuning}
use Rattle.host_runs.specs.Answer.{stored_answer}
use Rattle.host_runs.specs.Views.{file_view}
use Rattle.host_runs.specs.Views.{files_view}
use Rattle.host_runs.specs.Views.{reply_view}
use Rattle.scale_tool.proofs.Replies.{told_given, told_stop}
use Rattle.scale_tool.proofs.reply.tune_reply.Goals as goal

pub returns-in_err-given : goal.returns-in_err-given
returns-in_err-given g c =
    let p = err_from_is_err_and c.from_residual.result c.from_residual.ensures.1 in
    rw (p.1, p.2) (told_stop file_view (IsTuning c.args.files.now.image.now c.args.files.now.machine.now c.args.files.now.loops.now (files_view c.args.inputs.now.items.now)) (stored_answer tuned_text c.args.out.now) (λ refusal. refl) c.in_err-given.field-0.0 c.in_err-given.ensures.tuned)

pub returns : goal.returns
returns g c = told_given file_view (IsTuning c.args.files.now.image.now c.args.files.now.machine.now c.args.files.now.loops.now (files_view c.args.inputs.now.items.now)) (stored_answer tuned_text c.args.out.now) c.in_ok-given.given (reply_view c.in_ok-tuned_file.field-0) c.in_ok-given.ensures.tuned (c.in_ok-tuned_file.ensures)
