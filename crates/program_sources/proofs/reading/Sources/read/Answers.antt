use Rattle.std.proofs.lemmas.Result.{err_from_is_err_and}
use Rattle.program_sources.proofs.Parts.{original_stops, loops_stop, sources_go}
use Rattle.program_sources.proofs.reading.Sources.read.Goals as goal

pub returns-in_err-original-clause-sources : goal.returns-in_err-original-clause-sources
returns-in_err-original-clause-sources c =
    let p = err_from_is_err_and c.from_residual.result c.from_residual.ensures.1 in
    rw (p.1, p.2) (original_stops c.args.image.now c.args.machine.now c.args.loops.now c.in_err-original.field-0.0 c.in_err-original.ensures.original)

pub returns-in_err-notes-clause-sources : goal.returns-in_err-notes-clause-sources
returns-in_err-notes-clause-sources c =
    let p = err_from_is_err_and c.from_residual-in_err-notes.result c.from_residual-in_err-notes.ensures.1 in
    rw (p.1, p.2) (loops_stop c.args.image.now c.args.machine.now c.args.loops.now c.in_ok-original.original c.in_ok-original.ensures.original c.in_err-notes.field-0.0 c.in_err-notes.ensures)

pub returns-clause-sources : goal.returns-clause-sources
returns-clause-sources c = sources_go c.args.image.now c.args.machine.now c.args.loops.now c.in_ok-original.original c.in_ok-original.ensures.original c.in_ok-notes.notes c.in_ok-notes.ensures
