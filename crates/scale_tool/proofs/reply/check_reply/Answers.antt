use Rattle.std.proofs.Common.{refl, rules}
use Rattle.std.proofs.lemmas.Result.{err_from_is_err_and}
use Rattle.image_check.specs.Checked.{IsChecked}
use Rattle.scale_tool.specs.Answer.{verdict_answer}
use Rattle.host_runs.specs.Views.{reply_view}
use Rattle.scale_tool.proofs.Replies.{told_given, told_stop}
use Rattle.scale_tool.proofs.reply.check_reply.Goals as goal

pub returns-in_err-verdict-clause-told : goal.returns-in_err-verdict-clause-told
returns-in_err-verdict-clause-told c =
    let p = err_from_is_err_and c.from_residual.result c.from_residual.ensures.1 in
    rw (p.1, p.2) (told_stop (λ verdict. verdict) (IsChecked c.args.files.now.image.now c.args.files.now.other.now c.args.files.now.machine.now c.args.files.now.loops.now) (verdict_answer) (λ refusal. refl) c.in_err-verdict.field-0.0 c.in_err-verdict.ensures.verdict)

pub returns-clause-told : goal.returns-clause-told
returns-clause-told c = told_given (λ verdict. verdict) (IsChecked c.args.files.now.image.now c.args.files.now.other.now c.args.files.now.machine.now c.args.files.now.loops.now) (verdict_answer) c.in_ok-verdict.verdict (reply_view c.text_reply.result) c.in_ok-verdict.ensures.verdict (first_of (cc, search rules))
