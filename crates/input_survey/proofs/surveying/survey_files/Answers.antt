use Rattle.std.proofs.Common.{◌≡◌, ◌∙◌, length, map, sym, ap, subst, Ok, Option}
use Rattle.scale_base.specs.declared.ranges.Keyed.{Keyed}
use Rattle.scale_base.specs.Answer.{Stops}
use Rattle.scale_base.specs.Image.{Image}
use Rattle.power_model.specs.Numbers.{PowerModel}
use Rattle.loop_file.specs.Loops.{read_loops}
use Rattle.speed_sim.specs.Simulated.{level_allowed}
use Rattle.std.proofs.lemmas.Result.{err_from_is_err_and}
use Rattle.program_sources.specs.declared.reading.OriginalImage.{OriginalImage}
use Rattle.program_sources.proofs.Laws.{no_key, original_parts}
use Rattle.input_survey.proofs.Files.{original_stops, scaled_stops, level_stops, loops_stop, survey_answers}
use Rattle.input_survey.proofs.surveying.survey_files.Goals as goal

pub survey_of-requires-clause-unscaled : goal.survey_of-requires-clause-unscaled
survey_of-requires-clause-unscaled g c = no_key c.in_ok-original.original.view.keyed_segment (original_parts c.args.files.now.image.now c.args.files.now.machine.now c.in_ok-original.original c.in_ok-original.ensures.original).unscaled

pub returns-in_err-original : goal.returns-in_err-original
returns-in_err-original g c =
    let p = err_from_is_err_and c.from_residual.result c.from_residual.ensures.1 in
    rw (p.1, p.2) (original_stops c.args.files.now.image.now c.args.files.now.scaled.now c.args.files.now.machine.now c.args.files.now.loops.now _ c.in_err-original.field-0.0 c.in_err-original.ensures.original)

pub returns-in_err-other : goal.returns-in_err-other
returns-in_err-other g c =
    let p = err_from_is_err_and c.from_residual-in_err-other.result c.from_residual-in_err-other.ensures.1 in
    rw (p.1, p.2) (scaled_stops c.args.files.now.image.now c.args.files.now.scaled.now c.args.files.now.machine.now c.args.files.now.loops.now _ c.in_ok-original.original c.in_ok-original.ensures.original c.in_err-other.field-0.0 c.in_err-other.ensures)

pub returns-in_err-start : goal.returns-in_err-start
returns-in_err-start g c =
    let p = err_from_is_err_and c.from_residual-in_err-start.result c.from_residual-in_err-start.ensures.1 in
    let power : PowerModel = c.in_ok-original.original.power in
    let levels : c.count.result ≡ length power.levels = c.count.ensures.count ∙ ap (λ (q : OriginalImage). length q.power.levels) c.original.view_is in
    rw (p.1, p.2) (level_stops c.args.files.now.image.now c.args.files.now.scaled.now c.args.files.now.machine.now c.args.files.now.loops.now _ c.in_ok-original.original c.in_ok-original.ensures.original c.in_ok-other.other c.in_ok-other.ensures c.in_err-start.field-0.0
    (subst (λ n. Stops c.in_err-start.field-0.0 (level_allowed n c.in_ok-other.other.keyed_segment)) levels
    (subst (λ (k : Option Keyed). Stops c.in_err-start.field-0.0 (level_allowed c.count.result k)) c.keyed.ensures c.in_err-start.ensures.allowed)))

pub returns-in_err-notes : goal.returns-in_err-notes
returns-in_err-notes g c =
    let p = err_from_is_err_and c.from_residual-in_err-notes.result c.from_residual-in_err-notes.ensures.1 in
    let power : PowerModel = c.in_ok-original.original.power in
    let levels : c.count.result ≡ length power.levels = c.count.ensures.count ∙ ap (λ (q : OriginalImage). length q.power.levels) c.original.view_is in
    rw (p.1, p.2) (loops_stop c.args.files.now.image.now c.args.files.now.scaled.now c.args.files.now.machine.now c.args.files.now.loops.now _ c.in_ok-original.original c.in_ok-original.ensures.original c.in_ok-other.other c.in_ok-other.ensures
    (sym (ap (λ n. level_allowed n c.in_ok-other.other.keyed_segment) levels) ∙ (sym (ap (λ (k : Option Keyed). level_allowed c.count.result k) c.keyed.ensures) ∙ c.in_ok-start.ensures.allowed)) c.in_err-notes.field-0.0
    (subst (λ (v : Image). Stops c.in_err-notes.field-0.0 (read_loops v c.args.files.now.loops.now)) (ap (λ (q : OriginalImage). q.view) c.original.view_is) c.in_err-notes.ensures))

pub returns : goal.returns
returns g c =
    let power : PowerModel = c.in_ok-original.original.power in
    let levels : c.count.result ≡ length power.levels = c.count.ensures.count ∙ ap (λ (q : OriginalImage). length q.power.levels) c.original.view_is in
    survey_answers c.args.files.now.image.now c.args.files.now.scaled.now c.args.files.now.machine.now c.args.files.now.loops.now (map (λ input. input.items) c.args.inputs.now) c.in_ok-original.original c.in_ok-original.ensures.original c.in_ok-other.other c.in_ok-other.ensures
    (sym (ap (λ n. level_allowed n c.in_ok-other.other.keyed_segment) levels) ∙ (sym (ap (λ (k : Option Keyed). level_allowed c.count.result k) c.keyed.ensures) ∙ c.in_ok-start.ensures.allowed))
    c.in_ok-notes.notes c.in_ok-survey_of.field-0
    (subst (λ (v : Image). read_loops v c.args.files.now.loops.now ≡ Ok c.in_ok-notes.notes) (ap (λ (q : OriginalImage). q.view) c.original.view_is) c.in_ok-notes.ensures) c.in_ok-survey_of.ensures
