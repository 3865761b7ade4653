use Rattle.std.proofs.Common.{arith, refl}
use Rattle.std.proofs.lemmas.Result.{err_from_is_err_and}
use Rattle.scale_report.specs.Texts.{lowered_text}
use Rattle.image_lower.specs.Lowered.{IsLowered}
use Rattle.host_runs.specs.Answer.{stored_answer}
use Rattle.host_runs.specs.Views.{file_view}
use Rattle.std.proofs.lemmas.List.{get_or_default}
use Rattle.host_runs.specs.Views.{reply_view}
use Rattle.scale_tool.proofs.Replies.{told_given, told_stop}
use Rattle.scale_tool.proofs.reply.lower_reply.Goals as goal

pub returns-clause-bytes : goal.returns-clause-bytes
returns-clause-bytes c = λ k d lt. let fit = c.type_inv.image k in let same = get_or_default c.args.image.now k d 0 lt in omega (arith, fit, same)

pub returns-in_err-given-clause-bytes : goal.returns-in_err-given-clause-bytes
returns-in_err-given-clause-bytes c = λ k d lt. let fit = c.type_inv.image k in let same = get_or_default c.args.image.now k d 0 lt in omega (arith, fit, same)

pub returns-in_err-given-clause-told : goal.returns-in_err-given-clause-told
returns-in_err-given-clause-told c =
    let p = err_from_is_err_and c.from_residual.result c.from_residual.ensures.1 in
    rw (p.1, p.2) (told_stop file_view (IsLowered c.args.image.now c.args.jumps.now) (stored_answer lowered_text c.args.out.now) (λ refusal. refl) c.in_err-given.field-0.0 c.in_err-given.ensures.given)

pub returns-clause-told : goal.returns-clause-told
returns-clause-told c = told_given file_view (IsLowered c.args.image.now c.args.jumps.now) (stored_answer lowered_text c.args.out.now) c.in_ok-given.given (reply_view c.in_ok-lowered_file.field-0) c.in_ok-given.ensures.given (c.in_ok-lowered_file.ensures)
