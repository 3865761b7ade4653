use Rattle.std.proofs.lemmas.Result.{err_from_is_err_and}
use Rattle.plan_graphs.proofs.FileFacts.{files_stop, program_answers}
use Rattle.plan_graphs.proofs.program.draw_plan.Goals as goal

pub returns-in_err-sources : goal.returns-in_err-sources
returns-in_err-sources c =
    let p = err_from_is_err_and c.from_residual.result c.from_residual.ensures.1 in
    rw (p.1, p.2) (files_stop c.args.image.now c.args.machine.now c.args.loops.now c.in_err-sources.field-0.0 c.in_err-sources.ensures.sources)

pub returns : goal.returns
returns c = program_answers c.args.image.now c.args.machine.now c.args.loops.now c.in_ok-sources.sources c.draw_program.result c.in_ok-sources.ensures.sources c.draw_program.ensures
