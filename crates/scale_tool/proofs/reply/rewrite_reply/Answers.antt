use Rattle.std.proofs.Common.{refl}
use Rattle.std.proofs.lemmas.Result.{err_from_is_err_and}
use Rattle.scale_report.specs.Texts.{summary_text}
use Rattle.scaler.specs.Rewritten.{IsRewritten}
use Rattle.host_runs.specs.Answer.{stored_answer}
use Rattle.host_runs.specs.Views.{file_view}
use Rattle.host_runs.specs.Views.{reply_view}
use Rattle.scale_tool.proofs.Replies.{told_given, told_stop}
use Rattle.scale_tool.proofs.reply.rewrite_reply.Goals as goal

pub returns-in_err-given : goal.returns-in_err-given
returns-in_err-given c =
    let p = err_from_is_err_and c.from_residual.result c.from_residual.ensures.1 in
    rw (p.1, p.2) (told_stop file_view (IsRewritten c.args.files.now.image.now c.args.files.now.machine.now c.args.files.now.loops.now) (stored_answer summary_text c.args.out.now) (λ refusal. refl) c.in_err-given.field-0.0 c.in_err-given.ensures.given)

pub returns : goal.returns
returns c = told_given file_view (IsRewritten c.args.files.now.image.now c.args.files.now.machine.now c.args.files.now.loops.now) (stored_answer summary_text c.args.out.now) c.in_ok-given.given (reply_view c.in_ok-summary_file.field-0) c.in_ok-given.ensures.given (c.in_ok-summary_file.ensures)
