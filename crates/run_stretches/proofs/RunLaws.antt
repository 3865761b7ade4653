-- What has seen the steps of a run has its stretches.
use Rattle.std.proofs.Common.{◌≡◌, ℕ, zero, suc, ◌+◌, ◌<◌, ◌≤◌, List, [], ◌∷◌, ◌++◌, length, None, refl, sym, ap, ◌∙◌, subst, arith, length-append}
use Rattle.scale_base.specs.declared.stepping.Stepped.{Stepped}
use Rattle.scale_base.specs.declared.stepping.StepEnd.{StepEnd}
use Rattle.scale_base.specs.declared.stepping.StepEnd.TheVariants.{Went, Exited, Trapped}
use Rattle.std.specs.Prelude.{◌^◌}
use Rattle.scale_base.specs.State.{Setting, State}
use Rattle.scale_base.specs.Step.{step, PortBelow}
use Rattle.scale_base.specs.Image.{Image}
use Rattle.scale_base.specs.Run.{Run, Standing, GoesOn, HasExited, HasTrapped, ended, one_more_by, run, run_of, setting_of, start_of, starting_level}
use Rattle.power_model.specs.Numbers.{PowerModel, RunPrice, IsPowerModel}
use Rattle.power_model.specs.Report.{report_view}
use Rattle.power_model.specs.declared.report.RunReport.{RunReport}
use Rattle.power_model.specs.Price.{price}
use Rattle.speed_sim.specs.Simulated.{report_of}
use Rattle.speed_sim.specs.Seen.{seen_more, seen_from}
use Rattle.run_stretches.specs.declared.bars.BarEnd.{BarEnd}
use Rattle.run_stretches.specs.Stretches.{AreBarsOf}
use Rattle.run_stretches.specs.Recorded.{Track, tracked, untracked, finished}
use Rattle.run_stretches.proofs.StepBelow.{step_below}
use Rattle.run_stretches.proofs.TrackLaws.{IsTracked, tracked_first, tracked_next, finished_there, finished_behind}

module _ (power : PowerModel) (level : ℕ) where
  -- all steps but for one that exits are seen
  abbrev SeenSo : Standing → List Stepped → Track → Type 0
  SeenSo GoesOn steps t = IsTracked power level t steps
  SeenSo (HasExited status) steps t = (xs : List Stepped) × (x : Stepped) × (steps ≡ xs ++ x ∷ []) × IsTracked power level t xs
  SeenSo (HasTrapped trap) steps t = IsTracked power level t steps

  record IsSeen (n : ℕ) (r : Run) (t : Track) : Type 0 where
    pub few : length r.steps ≤ n
    pub seen : SeenSo r.standing r.steps t

  went_on : (n : ℕ) (steps : List Stepped) (t : Track) (end : StepEnd) (s : State) → n < 2 ^ 40 → length steps ≤ n → IsTracked power level t steps → PortBelow end (length power.levels)
      → IsSeen (suc n) (ended steps end s) (seen_more tracked t GoesOn end)
  went_on n steps t (Went x) s lt few h below =
      let long : length (steps ++ x ∷ []) ≡ length steps + 1 = length-append steps (x ∷ []) in
      let small : length steps < 2 ^ 40 = omega (arith, lt, few) in
      record { few = (let r : length (steps ++ x ∷ []) ≤ suc n = omega (arith, long, few) in r); seen = tracked_next power level t steps x h small below }
  went_on n steps t (Exited x status) s lt few h below =
      let long : length (steps ++ x ∷ []) ≡ length steps + 1 = length-append steps (x ∷ []) in
      record { few = (let r : length (steps ++ x ∷ []) ≤ suc n = omega (arith, long, few) in r); seen = (steps, x, refl, h) }
  went_on n steps t (Trapped trap) s lt few h below = record { few = (let r : length steps ≤ suc n = omega (arith, few) in r); seen = h }

  next : (env : Setting) (n : ℕ) (steps : List Stepped) (s : State) (standing : Standing) (t : Track) → env.levels ≡ length power.levels → n < 2 ^ 40 → length steps ≤ n → SeenSo standing steps t
      → IsSeen (suc n) (one_more_by env (record { steps = steps; state = s; standing = standing }) standing) (seen_more tracked t standing (step env s).end)
  next env n steps s GoesOn t levels lt few h =
      went_on n steps t (step env s).end (step env s).state lt few h (subst (λ l. PortBelow (step env s).end l) levels (step_below env s))
  next env n steps s (HasExited status) t levels lt few h = record { few = (let r : length steps ≤ suc n = omega (arith, few) in r); seen = h }
  next env n steps s (HasTrapped trap) t levels lt few h = record { few = (let r : length steps ≤ suc n = omega (arith, few) in r); seen = h }

  all_seen : (env : Setting) (s : State) (n : ℕ) → env.levels ≡ length power.levels → n ≤ 2 ^ 40 → IsSeen n (run env s n) (seen_from env s tracked (untracked power level) n)
  unfolding run seen_from
  all_seen env s zero levels le = record { few = (let r : 0 ≤ 0 = omega arith in r); seen = tracked_first power level }
  all_seen env s (suc n) levels le =
      let h = all_seen env s n levels (let r : n ≤ 2 ^ 40 = omega (arith, le) in r) in
      next env n (run env s n).steps (run env s n).state (run env s n).standing (seen_from env s tracked (untracked power level) n) levels (let r : n < 2 ^ 40 = omega (arith, le) in r) h.few h.seen

  so_finished : (standing : Standing) (steps : List Stepped) (t : Track) (paid : RunPrice) → SeenSo standing steps t → paid ≡ price power level steps → AreBarsOf power level steps (finished t paid)
  so_finished GoesOn steps t paid h is = finished_there power level t steps paid h is
  so_finished (HasTrapped trap) steps t paid h is = finished_there power level t steps paid h is
  so_finished (HasExited status) steps t paid h is =
      subst (λ (all : List Stepped). AreBarsOf power level all (finished t paid)) (sym h.2)
      (finished_behind power level t h.0 h.1 paid h.3 (is ∙ ap (price power level) h.2))

  pub run_finished : (env : Setting) (s : State) (n : ℕ) (paid : RunPrice) → env.levels ≡ length power.levels → n ≤ 2 ^ 40 → paid ≡ price power level (run env s n).steps
      → AreBarsOf power level (run env s n).steps (finished (seen_from env s tracked (untracked power level) n) paid)
  run_finished env s n paid levels le is =
      so_finished (run env s n).standing (run env s n).steps (seen_from env s tracked (untracked power level) n) paid (all_seen env s n levels le).seen is

-- the run of an image
pub run_drawn : (power : PowerModel) (image : Image) (input : List ℕ) (start : ℕ) (report : RunReport) (first t : Track) (bars : List BarEnd) → IsPowerModel power
    → start ≡ starting_level (length power.levels) image.keyed_segment → report_view report ≡ report_of power image input None → first ≡ untracked power start
    → t ≡ seen_from (setting_of image (length power.levels) input) (start_of image (length power.levels)) tracked first power.steps → bars ≡ finished t report.meter
    → AreBarsOf power (starting_level (length power.levels) image.keyed_segment) (run_of image (length power.levels) input power.steps).steps bars
unfolding report_of run_of
run_drawn power image input start report first t bars is begins reported unseen seen drawn =
    let levels : ℕ = length power.levels in
    let env : Setting = setting_of image levels input in
    let level : ℕ = starting_level levels image.keyed_segment in
    let paid : report.meter ≡ price power level (run env (start_of image levels) power.steps).steps = ap (λ r. r.paid) reported in
    let all = run_finished power level env (start_of image levels) power.steps report.meter refl is.steps_to paid in
    let begun : first ≡ untracked power level = unseen ∙ ap (untracked power) begins in
    subst (AreBarsOf power level (run env (start_of image levels) power.steps).steps)
    (sym (drawn ∙ ap (λ u. finished u report.meter) (seen ∙ ap (λ u. seen_from env (start_of image levels) tracked u power.steps) begun))) all
