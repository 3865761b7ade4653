-- How many cycles the runs of an original take.
use Rattle.std.proofs.Common.{◌≡◌, ℕ, zero, suc, ◌+◌, ◌^◌, ◌≤◌, List, [], ◌∷◌, length, Some, Result, Ok, sym, ◌∙◌, subst, arith, length-append}
use Rattle.std.specs.Prelude.{fold}
use Rattle.scale_base.specs.declared.refusal.Refusal.{Refusal}
use Rattle.scale_base.specs.declared.stepping.Stepped.{Stepped}
use Rattle.scale_base.specs.declared.stepping.StepEnd.{StepEnd}
use Rattle.scale_base.specs.declared.stepping.StepEnd.TheVariants.{Went, Exited, Trapped}
use Rattle.scale_base.specs.Image.{Image}
use Rattle.scale_base.specs.Run.{Run, Standing, GoesOn, HasExited, HasTrapped, ended, one_more_by, run, run_of, starting_level}
use Rattle.scale_base.specs.State.{Setting, State}
use Rattle.scale_base.specs.Step.{step}
use Rattle.power_model.specs.Numbers.{PowerModel, RunPrice}
use Rattle.power_model.specs.Price.{metered, price}
use Rattle.power_model.specs.Report.{Report}
use Rattle.machine_file.proofs.Laws.{model-from_bytes}
use Rattle.loop_file.specs.declared.notes.LoopNote.{LoopNote}
use Rattle.speed_sim.specs.Simulated.{simulated, report_of}
use Rattle.scaler.proofs.Laws.{held_parts}
use Rattle.gain_tuner.proofs.Laws.{simulated_plain}
use Rattle.pace_fit.specs.Finding.{HasHeld}

-- ---- a run has at most as many steps as are asked for

ended_most : (n : ℕ) (xs : List Stepped) (end : StepEnd) (u : State) → length xs ≤ n → length (ended xs end u).steps ≤ suc n
ended_most n xs (Went x) u le = omega (arith, length-append xs (x ∷ []), le)
ended_most n xs (Exited x status) u le = omega (arith, length-append xs (x ∷ []), le)
ended_most n xs (Trapped trap) u le = omega (arith, le)

more_most : (env : Setting) (n : ℕ) (r : Run) (standing : Standing) → length r.steps ≤ n → length (one_more_by env r standing).steps ≤ suc n
more_most env n r GoesOn le = ended_most n r.steps (step env r.state).end (step env r.state).state le
more_most env n r (HasExited status) le = omega (arith, le)
more_most env n r (HasTrapped trap) le = omega (arith, le)

run_most : (env : Setting) (s : State) (n : ℕ) → length (run env s n).steps ≤ n
unfolding run
run_most env s zero = omega arith
run_most env s (suc n) = more_most env n (run env s n) (run env s n).standing (run_most env s n)

-- ---- and its price counts them

counted_from : (power : PowerModel) (paid : RunPrice) (steps : List Stepped) → (fold (metered power) paid steps).steps ≡ paid.steps + length steps
counted_from power paid [] = omega arith
counted_from power paid (x ∷ steps) =
    let rest = counted_from power (metered power paid x) steps in
    omega (arith, rest)

report_most : (power : PowerModel) (o : Image) (input : List ℕ) (notes : List LoopNote) → (report_of power o input (Some notes)).paid.steps ≤ power.steps
unfolding report_of run_of
report_most power o input notes =
    let r = run_of o (length power.levels) input power.steps in
    let count : (price power (starting_level (length power.levels) o.keyed_segment) r.steps).steps ≡ 0 + length r.steps = counted_from power _ r.steps in
    let most : length r.steps ≤ power.steps = run_most _ _ power.steps in
    omega (arith, count, most)

same_ok : (r : Result Report Refusal) (a b : Report) → r ≡ Ok a → r ≡ Ok b → a ≡ b
same_ok r a b e e' = let both : Ok a ≡ Ok b = sym e ∙ e' in cc

pub steps_most : (image machine loops input : List ℕ) (report : Report) → HasHeld image machine loops → simulated image machine input (Some loops) ≡ Ok report → report.paid.steps ≤ 2 ^ 40
steps_most image machine loops input report (held, is) e =
    let p = held_parts image machine loops held is in
    let same = same_ok (simulated image machine input (Some loops)) (report_of p.power p.original input (Some p.notes)) report (simulated_plain image machine loops input p.power p.original p.notes p.power_is p.original_is p.no_key p.notes_are) e in
    let most : report.paid.steps ≤ p.power.steps = subst (λ (r : Report). r.paid.steps ≤ p.power.steps) same (report_most p.power p.original input p.notes) in
    let range : p.power.steps ≤ 2 ^ 40 = (model-from_bytes machine p.power p.power_is).steps_to in
    omega (arith, most, range)
