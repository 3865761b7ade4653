-- The lines of a survey with what `rewrite` stores.
use Rattle.std.proofs.Common.{◌≡◌, ℕ, ◌+◌, ◌-◌, ◌<◌, ◌≤◌, ⊎_elim, List, [], ◌∷◌, length, Some, refl, sym, ap, ◌∙◌, subst, arith}
use Rattle.std.specs.List.{All}
use Rattle.std.proofs.lemmas.Bool.{cases_lt}
use Rattle.std.proofs.lemmas.List.Elements.{All-cons}
use Rattle.scale_base.specs.declared.endings.End.TheVariants.{Exited, OutOfSteps}
use Rattle.scale_base.specs.declared.endings.Kept.{Kept}
use Rattle.scale_base.specs.declared.endings.Kept.TheVariants as kinds
use Rattle.scale_base.specs.Image.{Image}
use Rattle.scale_base.specs.State.{Setting}
use Rattle.scale_base.specs.Run.{Run, Standing, GoesOn, HasExited, HasTrapped, run, run_of, one_more, one_more_by, setting_of, start_of, starting_level}
use Rattle.scale_base.proofs.Laws.{run_stays}
use Rattle.power_model.specs.Numbers.{PowerModel, RunPrice}
use Rattle.power_model.specs.Price.{price, held_energy}
use Rattle.power_model.specs.Survey.{Surveyed}
use Rattle.loop_file.specs.declared.notes.LoopNote.{LoopNote}
use Rattle.keep_monitor.specs.Watch.{watched_at}
use Rattle.keep_monitor.proofs.Laws.{watched_is_kept}
use Rattle.rewritten_runs.specs.Prices.{price_of}
use Rattle.rewritten_runs.specs.Promise.{EndsAsPromised, KeepsThePromise}
use Rattle.speed_sim.specs.Simulated.{run_end, report_of}
use Rattle.input_survey.specs.Surveyed.{IsLine, AreLines}
use Rattle.input_survey.specs.Promised.{IsPromised}

-- ---- a run that has ended

ended_still : (env : Setting) (r : Run) (standing : Standing) → r.standing ≡ standing → (standing ≡ GoesOn → ⊥) → one_more env r ≡ r
ended_still env r GoesOn e n = absurd (n refl)
ended_still env r (HasExited status) e n = ap (one_more_by env r) e
ended_still env r (HasTrapped trap) e n = ap (one_more_by env r) e

-- it is the same after any more steps
later : (image : Image) (levels : ℕ) (input : List ℕ) (m n : ℕ) → m ≤ n → ((run_of image levels input m).standing ≡ GoesOn → ⊥) → run_of image levels input n ≡ run_of image levels input m
unfolding run_of
later image levels input m n le over =
    let env = setting_of image levels input in
    let s = start_of image levels in
    let e : n ≡ (n - m) + m = omega arith in
    ap (run env s) e ∙ run_stays env s m (n - m) (ended_still env (run env s m) (run env s m).standing refl over)

pub same_end : (image : Image) (levels : ℕ) (input : List ℕ) (m n : ℕ) → ((run_of image levels input m).standing ≡ GoesOn → ⊥) → ((run_of image levels input n).standing ≡ GoesOn → ⊥) →
    run_of image levels input m ≡ run_of image levels input n
same_end image levels input m n over_m over_n = ⊎_elim
    (λ (lt : m < n). sym (later image levels input m n (omega arith) over_m))
    (λ (ge : n ≤ m). later image levels input n m ge over_n)
    (cases_lt m n)

-- ---- endings

exited_is : (standing : Standing) (status : ℕ) → run_end standing ≡ Exited status → standing ≡ HasExited status
exited_is GoesOn status e = let bad : ⊥ = cc in absurd bad
exited_is (HasExited other) status e = let r : other ≡ status = cc in ap HasExited r
exited_is (HasTrapped trap) status e = let bad : ⊥ = cc in absurd bad

over_is : (standing : Standing) → (run_end standing ≡ OutOfSteps → ⊥) → standing ≡ GoesOn → ⊥
over_is standing n e = n (ap run_end e)

-- ---- the line of an input on which the original run is kept and exits

some_same : (a b : Kept) → Some a ≡ Some b → a ≡ b
some_same a b e = let r : a ≡ b = cc in r

pub line_promised : (power : PowerModel) (original scaled : Image) (notes : List LoopNote) (bound : ℕ) → KeepsThePromise power original notes scaled bound → (input : List ℕ) (line : Surveyed) →
    IsLine power original scaled notes input line → IsPromised power line
unfolding report_of
line_promised power original scaled notes bound promise input line is status kept exits there =
    let levels = length power.levels in
    let n = power.steps in
    let watched : (watched_at original levels input notes n).kept ≡ kinds.Kept = sym (some_same line.kept _ is.kept) ∙ kept in
    let exited : (run_of original levels input n).standing ≡ HasExited status = exited_is _ status (sym is.end ∙ exits) in
    let p : EndsAsPromised power original scaled bound input n status = promise input n status ((watched_is_kept original levels input notes n).0 watched) exited in
    let over : (run_of scaled levels input n).standing ≡ GoesOn → ⊥ = over_is _ (λ e. there (is.scaled_end ∙ e)) in
    let same : run_of scaled levels input n ≡ run_of scaled levels input p.after = same_end scaled levels input n p.after over (λ e. let bad : HasExited status ≡ GoesOn = sym p.exits ∙ e in let no : ⊥ = cc in no) in
    let paid : line.scaled_paid ≡ price_of power scaled input p.after = is.scaled_paid ∙ ap (λ (r : Run). price power (starting_level levels scaled.keyed_segment) r.steps) same in
    let held : line.held ≡ held_energy power (price_of power scaled input p.after) = is.held ∙ ap (λ (r : Run). held_energy power (price power (starting_level levels scaled.keyed_segment) r.steps)) same in
    let ending : run_end (run_of original levels input n).standing ≡ run_end (run_of scaled levels input n).standing = ap run_end (exited ∙ (sym p.exits ∙ ap (λ (r : Run). r.standing) (sym same))) in
    let output : (run_of original levels input n).state.output ≡ (run_of scaled levels input n).state.output = sym p.output ∙ ap (λ (r : Run). r.state.output) (sym same) in
    record {
      in_time = subst (λ (q : RunPrice). q.time ≤ power.deadline) (sym paid) p.in_time;
      same = is.same.1 (ending, output);
      energy = let a = ap (λ (q : RunPrice). q.energy) paid in let b = p.energy in omega (arith, a, b, held);
    }

pub lines_promised : (power : PowerModel) (original scaled : Image) (notes : List LoopNote) (bound : ℕ) → KeepsThePromise power original notes scaled bound → (inputs : List (List ℕ)) (lines : List Surveyed) →
    AreLines power original scaled notes inputs lines → All (IsPromised power) lines
lines_promised power original scaled notes bound promise [] [] are = λ k d kl. let bad : ⊥ = omega arith in absurd bad
lines_promised power original scaled notes bound promise [] (l ∷ ls) are = absurd are
lines_promised power original scaled notes bound promise (i ∷ is) [] are = absurd are
lines_promised power original scaled notes bound promise (i ∷ is) (l ∷ ls) are =
    All-cons (IsPromised power) l ls (line_promised power original scaled notes bound promise i l are.0) (lines_promised power original scaled notes bound promise is ls are.1)
