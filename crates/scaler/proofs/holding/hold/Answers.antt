use Rattle.std.proofs.lemmas.Result.{err_from_is_err_and}
use Rattle.marked_images.proofs.Laws.{file_is}
use Rattle.program_sources.proofs.Laws.{no_key, sources_parts}
use Rattle.scaler.proofs.Given.{held_stops, held_goes}
use Rattle.scaler.proofs.Safe.{safe_given}
use Rattle.scaler.proofs.holding.hold.Goals as goal

pub hold_program-requires-clause-file : goal.hold_program-requires-clause-file
hold_program-requires-clause-file c =
    let s = sources_parts c.args.image.now c.args.machine.now c.args.loops.now c.in_ok-sources.sources c.in_ok-sources.ensures.sources in
    rw (file_is c.args.image.now c.in_ok-sources.sources.view s.view_is) c.requires.image

pub hold_program-requires-clause-no_key : goal.hold_program-requires-clause-no_key
hold_program-requires-clause-no_key c =
    let s = sources_parts c.args.image.now c.args.machine.now c.args.loops.now c.in_ok-sources.sources c.in_ok-sources.ensures.sources in
    no_key c.in_ok-sources.sources.view.keyed_segment s.unscaled

pub returns-in_err-sources-clause-given : goal.returns-in_err-sources-clause-given
returns-in_err-sources-clause-given c =
    let p = err_from_is_err_and c.from_residual.result c.from_residual.ensures.1 in
    rw (p.1, p.2) (held_stops c.args.image.now c.args.machine.now c.args.loops.now c.in_err-sources.field-0.0 c.in_err-sources.ensures.sources)

pub returns-clause-given : goal.returns-clause-given
returns-clause-given c = held_goes c.args.image.now c.args.machine.now c.args.loops.now c.in_ok-sources.sources c.hold_program.result c.in_ok-sources.ensures.sources c.hold_program.ensures

pub returns-clause-safe : goal.returns-clause-safe
returns-clause-safe c = safe_given c.args.image.now c.args.machine.now c.args.loops.now c.hold_program.result c.requires.image c.requires.machine c.requires.loops
    (held_goes c.args.image.now c.args.machine.now c.args.loops.now c.in_ok-sources.sources c.hold_program.result c.in_ok-sources.ensures.sources c.hold_program.ensures)
