use Rattle.std.proofs.Common.{◌<◌, ◌^◌, List, ℕ, arith}
use Rattle.std.specs.Prelude.{All}
use Rattle.std.proofs.lemmas.List.{get_or_default}
use Rattle.std.proofs.lemmas.Result.{err_from_is_err_and}
use Rattle.program_sources.proofs.Laws.{sources_parts}
use Rattle.image_check.specs.Checked.{IsChecked}
use Rattle.image_check.proofs.FileLaws.{CheckAnswers, files_stop, program_answers}
use Rattle.image_check.proofs.SafeChecks.{safe_given}
use Rattle.image_check.proofs.checking.check.Goals as goal

pub check_program-requires-clause-no_key : goal.check_program-requires-clause-no_key
check_program-requires-clause-no_key c = (sources_parts c.args.image.now c.args.machine.now c.args.loops.now c.in_ok-sources.sources c.in_ok-sources.ensures.sources).unscaled

pub returns-in_err-sources-clause-verdict : goal.returns-in_err-sources-clause-verdict
returns-in_err-sources-clause-verdict c =
    let p = err_from_is_err_and c.from_residual.result c.from_residual.ensures.1 in
    rw (p.1, p.2) (files_stop c.args.image.now c.args.foreign.now c.args.machine.now c.args.loops.now c.in_err-sources.field-0.0 c.in_err-sources.ensures.sources)

pub returns-clause-verdict : goal.returns-clause-verdict
returns-clause-verdict c = program_answers c.args.image.now c.args.foreign.now c.args.machine.now c.args.loops.now c.in_ok-sources.sources c.check_program.result c.in_ok-sources.ensures.sources c.check_program.ensures

pub returns-clause-safe : goal.returns-clause-safe
returns-clause-safe c =
    let foreign : List ℕ = c.args.foreign.now in
    let bytes : All (λ b. b < 2 ^ 8) foreign = λ k d lt. let fit = c.type_inv.foreign k in let same = get_or_default foreign k d 0 lt in omega (arith, fit, same) in
    let given : CheckAnswers c.check_program.result (IsChecked c.args.image.now foreign c.args.machine.now c.args.loops.now) =
    program_answers c.args.image.now foreign c.args.machine.now c.args.loops.now c.in_ok-sources.sources c.check_program.result c.in_ok-sources.ensures.sources c.check_program.ensures in
    safe_given c.args.image.now foreign c.args.machine.now c.args.loops.now c.check_program.result bytes given
