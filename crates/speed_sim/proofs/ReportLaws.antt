-- The report of a run.
use Rattle.std.proofs.Common.{◌≡◌, ℕ, ◌<◌, List, length, Option, None, option_map, refl, sym, ◌∙◌, ap, subst}
use Rattle.scale_base.specs.declared.endings.End.{End}
use Rattle.scale_base.specs.declared.endings.Kept.{Kept}
use Rattle.scale_base.specs.declared.stepping.Stepped.{Stepped}
use Rattle.scale_base.specs.Image.{Image, loaded_byte}
use Rattle.scale_base.specs.Layout.{Layout, layout_of}
use Rattle.scale_base.specs.State.{Setting, State}
use Rattle.scale_base.specs.Run.{run, run_of, start, starting_level, setting_of, start_of}
use Rattle.power_model.specs.Numbers.{PowerModel, RunPrice}
use Rattle.power_model.specs.Price.{price, held_energy}
use Rattle.power_model.specs.Report.{Report}
use Rattle.power_model.proofs.Laws.{start-price}
use Rattle.loop_file.specs.declared.notes.LoopNote.{LoopNote}
use Rattle.keep_monitor.specs.Watch.{watched_at}
use Rattle.speed_sim.specs.Seen.{seen_from}
use Rattle.speed_sim.specs.Simulated.{run_end, report_of}

-- the setting and the state of an image's run at its start, by their parts
pub image_setting : (image : Image) (levels : ℕ) (input : List ℕ) (layout : Layout) (n : ℕ) (bytes : List ℕ) →
    layout ≡ layout_of image → n ≡ levels → bytes ≡ input → record { layout = layout; levels = n; input = bytes } ≡ setting_of image levels input
image_setting image levels input layout n bytes a b c = cc

pub image_start : (image : Image) (levels : ℕ) (bytes : ℕ → ℕ) (entry level : ℕ) → bytes ≡ loaded_byte image → entry ≡ image.entry →
    level ≡ starting_level levels image.keyed_segment → start bytes entry level ≡ start_of image levels
image_start image levels bytes entry level a b c =
    ap (λ f. start f entry level) a ∙ (ap (λ e. start (loaded_byte image) e level) b ∙ ap (start (loaded_byte image) image.entry) c)

-- a price begins at its level
pub paid_start : (power : PowerModel) (level n : ℕ) (env : Setting) (first : State) (paid : RunPrice) → level < length power.levels →
    paid ≡ price power level (run env first n).steps → paid.start < length power.levels
paid_start power level n env first paid lt h =
    subst (λ l. l < length power.levels) (sym (ap (λ q. q.start) h ∙ start-price power level (run env first n).steps)) lt

abbrev report_with : End → RunPrice → ℕ → List ℕ → Option Kept → Report
report_with end paid held output kept = record { end = end; paid = paid; held = held; output = output; kept = kept }

same_report : (end end' : End) (paid paid' : RunPrice) (held held' : ℕ) (output output' : List ℕ) (kept kept' : Option Kept) →
    end ≡ end' → paid ≡ paid' → held ≡ held' → output ≡ output' → kept ≡ kept' →
    report_with end paid held output kept ≡ report_with end' paid' held' output' kept'
same_report end end' paid paid' held held' output output' kept kept' a b c d e = cc

pub reported : (power : PowerModel) (image : Image) (input : List ℕ) (level : ℕ) (env : Setting) (first now : State) (end : End) (paid : RunPrice) (held : ℕ) →
    level ≡ starting_level (length power.levels) image.keyed_segment → env ≡ setting_of image (length power.levels) input → first ≡ start_of image (length power.levels) →
    end ≡ run_end (run env first power.steps).standing → paid ≡ price power level (run env first power.steps).steps → now ≡ (run env first power.steps).state →
    held ≡ held_energy power paid → record { end = end; paid = paid; held = held; output = now.output; kept = None } ≡ report_of power image input None
unfolding report_of run_of
reported power image input level env first now end paid held level_is env_is first_is end_is paid_is state_is held_is =
    let levels = length power.levels in
    let n = power.steps in
    let there = run (setting_of image levels input) (start_of image levels) n in
    let whole : run env first n ≡ there = ap (λ e. run e first n) env_is ∙ ap (λ s. run (setting_of image levels input) s n) first_is in
    let same : paid ≡ price power (starting_level levels image.keyed_segment) there.steps =
    paid_is ∙ (ap (λ l. price power l (run env first n).steps) level_is ∙ ap (λ r. price power (starting_level levels image.keyed_segment) r.steps) whole) in
    same_report _ _ _ _ _ _ _ _ None None
    (end_is ∙ ap (λ r. run_end r.standing) whole)
    same
    (held_is ∙ ap (held_energy power) same)
    (ap (λ s. s.output) state_is ∙ ap (λ r. r.state.output) whole)
    refl

-- what has seen the run of an image, by the parts of its setting and of its state at the start
pub seen_there : {W : Type 0} (image : Image) (levels : ℕ) (input : List ℕ) (env : Setting) (first : State) (see : W → Stepped → W) (w : W) (n : ℕ) →
    env ≡ setting_of image levels input → first ≡ start_of image levels → seen_from env first see w n ≡ seen_from (setting_of image levels input) (start_of image levels) see w n
seen_there image levels input env first see w n env_is first_is = ap (λ e. seen_from e first see w n) env_is ∙ ap (λ s. seen_from (setting_of image levels input) s see w n) first_is

-- a report that says what is kept of notes
pub with_kept : (power : PowerModel) (image : Image) (input : List ℕ) (notes : Option (List LoopNote)) (r : Report) (kept : Option Kept) → r ≡ report_of power image input None →
    kept ≡ option_map (λ loops. (watched_at image (length power.levels) input loops power.steps).kept) notes →
    record { end = r.end; paid = r.paid; held = r.held; output = r.output; kept = kept } ≡ report_of power image input notes
unfolding report_of
with_kept power image input notes r kept is kept_is =
    same_report _ _ _ _ _ _ _ _ kept _ (ap (λ (q : Report). q.end) is) (ap (λ (q : Report). q.paid) is) (ap (λ (q : Report). q.held) is) (ap (λ (q : Report). q.output) is) kept_is
