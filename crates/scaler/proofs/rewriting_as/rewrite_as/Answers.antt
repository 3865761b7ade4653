use Rattle.std.proofs.Common.{List, sym, subst}
use Rattle.std.proofs.lemmas.Result.{err_from_is_err_and}
use Rattle.power_model.specs.Numbers.{PowerModel, IsPowerModel}
use Rattle.loop_file.specs.declared.notes.LoopNote.{LoopNote}
use Rattle.marked_images.proofs.Laws.{file_is, HoldAnswers, read_again}
use Rattle.program_sources.proofs.Laws.{no_key, sources_parts}
use Rattle.scaler.specs.Rewritten.{IsRewrittenProgram}
use Rattle.scaler.specs.RewrittenAs.{IsRewrittenAs, notes_with}
use Rattle.scaler.proofs.Gains.{model_with}
use Rattle.scaler.proofs.Given.{rewritten_as_stops, rewritten_as_goes}
use Rattle.scaler.proofs.SafeAs.{safe_given}
use Rattle.scaler.proofs.rewriting_as.rewrite_as.Goals as goal

pub rewrite_program-requires-clause-read : goal.rewrite_program-requires-clause-read
rewrite_program-requires-clause-read c =
    let s = sources_parts c.args.image.now c.args.machine.now c.args.loops.now c.in_ok-sources.sources c.in_ok-sources.ensures.sources in
    read_again c.args.image.now c.in_ok-sources.sources.view s.view_is

pub rewrite_program-requires-clause-file : goal.rewrite_program-requires-clause-file
rewrite_program-requires-clause-file c =
    let s = sources_parts c.args.image.now c.args.machine.now c.args.loops.now c.in_ok-sources.sources c.in_ok-sources.ensures.sources in
    rw (file_is c.args.image.now c.in_ok-sources.sources.view s.view_is) c.requires.image

pub rewrite_program-requires-clause-no_key : goal.rewrite_program-requires-clause-no_key
rewrite_program-requires-clause-no_key c =
    let s = sources_parts c.args.image.now c.args.machine.now c.args.loops.now c.in_ok-sources.sources c.in_ok-sources.ensures.sources in
    no_key c.in_ok-sources.sources.view.keyed_segment s.unscaled

pub rewrite_program-requires-clause-power : goal.rewrite_program-requires-clause-power
rewrite_program-requires-clause-power c = subst IsPowerModel (sym c.with_gain-power.ensures) (model_with c.in_ok-sources.sources.power c.args.min_gain c.in_ok-sources.ensures.in_range)

pub returns-in_err-sources-clause-given : goal.returns-in_err-sources-clause-given
returns-in_err-sources-clause-given c =
    let p = err_from_is_err_and c.from_residual.result c.from_residual.ensures.1 in
    rw (p.1, p.2) (rewritten_as_stops c.args.image.now c.args.machine.now c.args.loops.now c.args.min_gain c.args.counters c.in_err-sources.field-0.0 c.in_err-sources.ensures.sources)

pub returns-clause-given : goal.returns-clause-given
returns-clause-given c =
    rewritten_as_goes c.args.image.now c.args.machine.now c.args.loops.now c.args.min_gain c.args.counters c.in_ok-sources.sources c.rewrite_program.result c.in_ok-sources.ensures.sources
    (subst (λ (q : PowerModel). HoldAnswers c.rewrite_program.result (IsRewrittenProgram q c.in_ok-sources.sources.view (notes_with c.args.counters c.in_ok-sources.sources.notes))) c.with_gain-power.ensures
    (subst (λ (ns : List LoopNote). HoldAnswers c.rewrite_program.result (IsRewrittenProgram c.with_gain-power.result c.in_ok-sources.sources.view ns)) c.notes_with-notes.ensures c.rewrite_program.ensures))

pub returns-clause-safe : goal.returns-clause-safe
returns-clause-safe c =
    let given : HoldAnswers c.rewrite_program.result (IsRewrittenAs c.args.image.now c.args.machine.now c.args.loops.now c.args.min_gain c.args.counters) =
    rewritten_as_goes c.args.image.now c.args.machine.now c.args.loops.now c.args.min_gain c.args.counters c.in_ok-sources.sources c.rewrite_program.result c.in_ok-sources.ensures.sources
    (subst (λ (q : PowerModel). HoldAnswers c.rewrite_program.result (IsRewrittenProgram q c.in_ok-sources.sources.view (notes_with c.args.counters c.in_ok-sources.sources.notes))) c.with_gain-power.ensures
    (subst (λ (ns : List LoopNote). HoldAnswers c.rewrite_program.result (IsRewrittenProgram c.with_gain-power.result c.in_ok-sources.sources.view ns)) c.notes_with-notes.ensures c.rewrite_program.ensures)) in
    safe_given c.args.image.now c.args.machine.now c.args.loops.now c.args.min_gain c.args.counters c.rewrite_program.result c.requires.image c.requires.machine c.requires.loops given
