-- A run, a step further.
use Rattle.std.proofs.Common.{◌≡◌, ℕ, suc, ◌+◌, ◌-◌, ◌<◌, ◌≤◌, ◌⊎◌, List, [], ◌∷◌, add-one, refl, sym, ap, ◌∙◌, subst, arith, inl, inr, ⊎_elim}
use Rattle.scale_base.specs.declared.stepping.Stepped.{Stepped}
use Rattle.scale_base.specs.declared.stepping.StepEnd.{StepEnd}
use Rattle.scale_base.specs.declared.stepping.StepEnd.TheVariants as ends
use Rattle.scale_base.specs.State.{Setting, State}
use Rattle.scale_base.specs.Step.{Outcome, step}
use Rattle.scale_base.specs.Run.{Run, ended, one_more, run}
use Rattle.scale_base.proofs.Laws.{outcome, going, run_none, run_stays}
use Rattle.std.proofs.lemmas.Bool.{cases_lt}
use Rattle.bound_laws.specs.Values.{Values}
use Rattle.stack_laws.specs.Stacks.{Stacks}
use Rattle.stack_laws.specs.Tidy.{Activation as Active, AreAllKept, IsTidy, IsTidyStep, activations, activations_behind, begun_at}
use Rattle.tidy_runs.specs.declared.looking.Looked.{Looked}
use Rattle.tidy_runs.specs.declared.looking.Looked.TheVariants.{GoesOn, Ended, Broke, Lost}
use Rattle.tidy_runs.specs.declared.activations.Broken.{Broken}
use Rattle.tidy_runs.specs.Looking.{DoesGoOn, HasEnded, IsArrival, IsBroken, IsLooked, IsTidyEnd, IsTidyMove, IsTidySoFar}

pub looked : (v : Values) (w : Stacks) (s : State) (ys : List Active) (o : Outcome) (end : StepEnd) (next : State) (zs : List Active) (l : Looked) →
    outcome end next ≡ o → IsTidyStep w s.pc ys s.bytes o.state.bytes → IsArrival v ys end next zs l → IsLooked v w s ys o next zs l
looked v w s ys o end next zs GoesOn e tidy a = record {
  tidy = tidy;
  goes = subst (λ (q : Outcome). DoesGoOn q.end) e a.0;
  state_is = ap (λ (q : Outcome). q.state) e;
  active_are = a.1 ∙ ap (λ (q : Outcome). activations_behind v ys q.end q.state) e;
}
looked v w s ys o end next zs Ended e tidy a = record { tidy = tidy; ended = subst (λ (q : Outcome). HasEnded q.end) e a }
looked v w s ys o end next zs (Broke b) e tidy a = absurd a
looked v w s ys o end next zs Lost e tidy a = tt

-- ---- along a run

run_suc : (env : Setting) (first : State) (n : ℕ) → run env first (suc n) ≡ one_more env (run env first n)
unfolding run
run_suc env first n = refl

ended_state : (xs : List Stepped) (end : StepEnd) (t : State) → (ended xs end t).state ≡ t
ended_state xs (ends.Went x) t = refl
ended_state xs (ends.Exited x status) t = refl
ended_state xs (ends.Trapped trap) t = refl

ended_goes : (xs : List Stepped) (end : StepEnd) (t : State) → DoesGoOn end → ended xs end t ≡ going (ended xs end t).steps t
ended_goes xs (ends.Went x) t goes = refl
ended_goes xs (ends.Exited x status) t goes = absurd goes
ended_goes xs (ends.Trapped trap) t goes = absurd goes

ended_stays : (env : Setting) (xs : List Stepped) (end : StepEnd) (t : State) → HasEnded end → one_more env (ended xs end t) ≡ ended xs end t
ended_stays env xs (ends.Went x) t over = absurd over
ended_stays env xs (ends.Exited x status) t over = refl
ended_stays env xs (ends.Trapped trap) t over = refl

-- what isn't changed is kept
all_same : (w : Stacks) (bytes : ℕ → ℕ) (ys : List Active) → AreAllKept w bytes bytes ys
all_same w bytes [] = tt
all_same w bytes (y ∷ ys) = (λ k kept. refl, all_same w bytes ys)

below_or : (m n : ℕ) → m < suc n → (m < n) ⊎ (m ≡ n)
below_or m n lt = ⊎_elim (λ (l : m < n). inl l) (λ (g : n ≤ m). inr (let e : m ≡ n = omega arith in e)) (cases_lt m n)

module _ (v : Values) (w : Stacks) (env : Setting) (first : State) where
  -- step n is tidy
  abbrev IsTidyAt : ℕ → Type 0
  IsTidyAt n = IsTidyStep w (run env first n).state.pc (activations v env first n) (run env first n).state.bytes (run env first (suc n)).state.bytes

  tidy_none : IsTidy v w env first 0
  tidy_none m lt = let bad : ⊥ = omega arith in absurd bad

  tidy_more : (n : ℕ) → IsTidy v w env first n → IsTidyAt n → IsTidy v w env first (suc n)
  tidy_more n before last m lt = ⊎_elim (λ (less : m < n). before m less) (λ (same : m ≡ n). subst IsTidyAt (sym same) last) (below_or m n lt)

  pub so_far_none : (setting : Setting) (ys : List Active) → setting ≡ env → ys ≡ begun_at v first ∷ [] → IsTidySoFar v w env first 0 setting first ys
  unfolding activations
  so_far_none setting ys same active = record {
    run_is = run_none env first ∙ ap (λ (xs : List Stepped). going xs first) (sym (ap (λ (r : Run). r.steps) (run_none env first)));
    setting_is = same;
    tidy = tidy_none;
    active_are = sym active;
  }

  module _ (n : ℕ) (setting : Setting) (s : State) (ys : List Active) (so : IsTidySoFar v w env first n setting s ys) where
    abbrev o : Outcome
    o = step env s

    abbrev xs : List Stepped
    xs = (run env first n).steps

    more_is : run env first (suc n) ≡ ended xs o.end o.state
    more_is = run_suc env first n ∙ ap (one_more env) so.run_is

    state_is : (run env first (suc n)).state ≡ o.state
    state_is = ap (λ (r : Run). r.state) more_is ∙ ended_state xs o.end o.state

    here : (run env first n).state ≡ s
    here = ap (λ (r : Run). r.state) so.run_is

    tidy_at : IsTidyStep w s.pc ys s.bytes o.state.bytes → IsTidyAt n
    tidy_at tidy_step =
        subst (λ (u : State). IsTidyStep w u.pc (activations v env first n) u.bytes (run env first (suc n)).state.bytes) (sym here)
        (subst (λ (l : List Active). IsTidyStep w s.pc l s.bytes (run env first (suc n)).state.bytes) (sym so.active_are)
        (subst (λ (u : State). IsTidyStep w s.pc ys s.bytes u.bytes) (sym state_is) tidy_step))

    step_is : step setting s ≡ o
    step_is = ap (λ (e : Setting). step e s) so.setting_is

    active_more : activations v env first (suc n) ≡ activations_behind v ys o.end o.state
    unfolding activations
    active_more =
        ap (λ (u : State). activations_behind v (activations v env first n) (step env u).end (step env u).state) here
        ∙ ap (λ (l : List Active). activations_behind v l o.end o.state) so.active_are

    on_by : (next : State) (zs : List Active) (setting' : Setting) → IsTidyMove v w s ys o next zs → setting' ≡ setting → IsTidySoFar v w env first (suc n) setting' next zs
    on_by next zs setting' move same =
        let goes : run env first (suc n) ≡ going (ended xs o.end o.state).steps o.state = more_is ∙ ended_goes xs o.end o.state move.goes in
        record {
          run_is = goes ∙ (ap (λ (l : List Stepped). going l o.state) (sym (ap (λ (r : Run). r.steps) goes)) ∙ ap (λ (u : State). going (run env first (suc n)).steps u) (sym move.state_is));
          setting_is = same ∙ so.setting_is;
          tidy = tidy_more n so.tidy (tidy_at move.tidy);
          active_are = active_more ∙ sym move.active_are;
        }

    pub so_far_more : (next : State) (zs : List Active) (setting' : Setting) → IsTidyMove v w s ys (step setting s) next zs → setting' ≡ setting → IsTidySoFar v w env first (n + 1) setting' next zs
    so_far_more next zs setting' move same = rw add-one (on_by next zs setting' (subst (λ (q : Outcome). IsTidyMove v w s ys q next zs) step_is move) same)

    -- where the run has ended, all of it is tidy
    over_by : IsTidyEnd w s ys o → (m : ℕ) → IsTidy v w env first m
    over_by over m j lt = ⊎_elim (λ (l : j < suc n). tidy_more n so.tidy (tidy_at over.tidy) j l) (λ (g : suc n ≤ j). later g) (cases_lt j (suc n))
      where
        stays : one_more env (run env first (suc n)) ≡ run env first (suc n)
        stays = ap (one_more env) more_is ∙ (ended_stays env xs o.end o.state over.ended ∙ sym more_is)

        same : (k : ℕ) → suc n ≤ k → run env first k ≡ run env first (suc n)
        same k g = let e : k ≡ (k - suc n) + suc n = omega arith in ap (run env first) e ∙ run_stays env first (suc n) (k - suc n) stays

        later : suc n ≤ j → IsTidyAt j
        later g doubtful =
            let e : run env first (suc j) ≡ run env first j = same (suc j) (omega (arith, g)) ∙ sym (same j g) in
            subst (λ (r : Run). AreAllKept w (run env first j).state.bytes r.state.bytes (activations v env first j)) (sym e) (all_same w (run env first j).state.bytes (activations v env first j))

    pub all_tidy : IsTidyEnd w s ys (step setting s) → (m : ℕ) → IsTidy v w env first m
    all_tidy over = over_by (subst (λ (q : Outcome). IsTidyEnd w s ys q) step_is over)

    pub broken_here : (b : Broken) → IsBroken w s.pc b → IsBroken w (run env first n).state.pc b
    broken_here b broken = subst (λ (u : State). IsBroken w u.pc b) (sym here) broken
