-- What each step of a run whose returns go back to their calls keeps, by how many steps there were before it.
use Rattle.std.proofs.Common.{◌≡◌, ℕ, zero, suc, List, [], refl, sym, ap, ◌∙◌, subst, Option, Some, None}
use Rattle.scale_base.specs.declared.stepping.Stepped.{Stepped}
use Rattle.scale_base.specs.declared.stepping.Trap.{Trap}
use Rattle.scale_base.specs.declared.stepping.StepEnd.{StepEnd}
use Rattle.scale_base.specs.declared.stepping.StepEnd.TheVariants.{Went, Exited, Trapped}
use Rattle.scale_base.specs.State.{Setting, State}
use Rattle.scale_base.specs.Step.{step}
use Rattle.scale_base.specs.Run.{Run, Standing, GoesOn, HasExited, HasTrapped, one_more_by, ended, run}
use Rattle.cost_theory.specs.Graph.{Loops}
use Rattle.cost_theory.specs.Reached.{Code, IsCodeOf, HasNoBadWord}
use Rattle.cost_theory.specs.Reached.Reached.{main}
use Rattle.code_text.specs.Text.{Text, kind_at}
use Rattle.graph_runs.specs.TextStates.{IsTextOf, IsOverText}
use Rattle.graph_runs.specs.ReturnAddresses.{returns_after}
use Rattle.graph_runs.specs.RunTransitions.{StandsBy}
use Rattle.graph_runs.specs.KeptSteps.{Carried, carried_first, counts_after, kept_more}
use Rattle.graph_runs.specs.KeptRuns.{watched, kept_at}
use Rattle.graph_runs.proofs.Laws.{kept_parts}
use Rattle.bound_laws.proofs.Laws.{At, Onward, onward, KeptStep}
use Rattle.cost_theory.specs.Reached.{Reached}

module _ (t : Text) (env : Setting) (ok : IsTextOf t env) (code : Code) (is : IsCodeOf (kind_at t) t.entry code) (fine : HasNoBadWord (kind_at t) t.entry)
    (s : State) (over : IsOverText t s) (at_entry : s.pc ≡ t.entry) (l : Loops)
    (I : ℕ → State → List ℕ → Carried → Type 0) (Q : ℕ → Carried → Type 0)
    (begins : I 0 s [] carried_first)
    (says : (n : ℕ) (u : State) (calls : List ℕ) (d : Carried) → I n u calls d → Q n d)
    (later : (n : ℕ) (d : Carried) → Q n d → Q (suc n) d)
    (goes : (n : ℕ) (d f : Carried) (x : Stepped) → KeptStep env s l n d f x → (at : At t (run env s n).state d.returns) →
    (on : Onward t env ok code is fine (run env s n).state (step env (run env s n).state).state at.calls f.returns x.moved) →
    I n (run env s n).state at.calls d → I (suc n) (step env (run env s n).state).state on.at.calls f) where
  abbrev pub Stands : ℕ → Run → Carried → Type 0
  Stands n r d = (at : At t r.state d.returns) × I n r.state at.calls d

  abbrev pub Both : ℕ → Run → Carried → Type 0
  Both n r d = Q n d × StandsBy r.standing (Stands n r d)

  -- a run that has ended says nothing more
  ended_so : (n : ℕ) (r : Run) (d : Carried) → (r.standing ≡ GoesOn → ⊥) → StandsBy r.standing (Stands n r d)
  ended_so n r d not = by r.standing refl
    where
      by : (y : Standing) → r.standing ≡ y → StandsBy y (Stands n r d)
      by GoesOn e = absurd (not e)
      by (HasExited status) e = tt
      by (HasTrapped trap) e = tt

  stays : (n : ℕ) (d : Carried) → ((f : Carried) → kept_at env s l n ≡ Some f → Both n (run env s n) f) → (run env s (suc n)) ≡ run env s n → ((run env s n).standing ≡ GoesOn → ⊥) → kept_at env s l (suc n) ≡ kept_at env s l n → kept_at env s l (suc n) ≡ Some d → Both (suc n) (run env s (suc n)) d
  stays n d ih same not kept h = subst (λ r. Both (suc n) r d) (sym same) (later n d (ih d (sym kept ∙ h)).0, ended_so (suc n) (run env s n) d not)

  more : (n : ℕ) → ((f : Carried) → kept_at env s l n ≡ Some f → Both n (run env s n) f) → (d : Carried) → kept_at env s l (suc n) ≡ Some d → Both (suc n) (run env s (suc n)) d
  unfolding run kept_at
  more n ih d h = by_standing (run env s n).standing refl
    where
      r : Run
      r = run env s n

      went_on : (x : Stepped) → r.standing ≡ GoesOn → (step env r.state).end ≡ Went x → (o : Option Carried) → kept_at env s l n ≡ o → kept_more l o x ≡ Some d → Both (suc n) (run env s (suc n)) d
      went_on x e end None q k = let bad : ⊥ = cc in absurd bad
      went_on x e end (Some c) q k =
          let p = kept_parts l (counts_after l c x) x (returns_after c.returns x) d k in
          let same : run env s (suc n) ≡ ended r.steps (Went x) (step env r.state).state = ap (one_more_by env r) e ∙ ap (λ y. ended r.steps y (step env r.state).state) end in
          let now : Stands n r c = subst (λ y. StandsBy y (Stands n r c)) e (ih c q).1 in
          let on : Onward t env ok code is fine r.state (step env r.state).state now.0.calls d.returns x.moved = onward t env ok code is fine r.state c.returns d.returns now.0 x end p.0 in
          let kept : KeptStep env s l n c d x = record {
            before = q;
            behind = h;
            went = end;
            returns = p.0;
            counts = p.1;
            goes = e;
            goes_on = ap (λ y. y.standing) same;
            state = ap (λ y. y.state) same;
          } in
          let then : I (suc n) (step env r.state).state on.at.calls d = goes n c d x kept now.0 on now.1 in
          subst (λ y. Both (suc n) y d) (sym same) (says (suc n) (step env r.state).state on.at.calls d then, (on.at, then))

      by_end : r.standing ≡ GoesOn → (end : StepEnd) → (step env r.state).end ≡ end → Both (suc n) (run env s (suc n)) d
      by_end e (Went x) q = went_on x e q (kept_at env s l n) refl
          (subst (λ y. watched l (kept_at env s l n) GoesOn y ≡ Some d) q (subst (λ y. watched l (kept_at env s l n) y (step env r.state).end ≡ Some d) e h))
      by_end e (Exited x status) q =
          let same : run env s (suc n) ≡ ended r.steps (Exited x status) (step env r.state).state = ap (one_more_by env r) e ∙ ap (λ y. ended r.steps y (step env r.state).state) q in
          let k : kept_at env s l n ≡ Some d = subst (λ y. watched l (kept_at env s l n) GoesOn y ≡ Some d) q (subst (λ y. watched l (kept_at env s l n) y (step env r.state).end ≡ Some d) e h) in
          subst (λ y. Both (suc n) y d) (sym same) (later n d (ih d k).0, tt)
      by_end e (Trapped trap) q =
          let same : run env s (suc n) ≡ ended r.steps (Trapped trap) (step env r.state).state = ap (one_more_by env r) e ∙ ap (λ y. ended r.steps y (step env r.state).state) q in
          let k : kept_at env s l n ≡ Some d = subst (λ y. watched l (kept_at env s l n) GoesOn y ≡ Some d) q (subst (λ y. watched l (kept_at env s l n) y (step env r.state).end ≡ Some d) e h) in
          subst (λ y. Both (suc n) y d) (sym same) (later n d (ih d k).0, tt)

      exits : (status : ℕ) → r.standing ≡ HasExited status → r.standing ≡ GoesOn → ⊥
      exits status e f = let q : HasExited status ≡ GoesOn = sym e ∙ f in let bad : ⊥ = cc in bad

      traps : (trap : Trap) → r.standing ≡ HasTrapped trap → r.standing ≡ GoesOn → ⊥
      traps trap e f = let q : HasTrapped trap ≡ GoesOn = sym e ∙ f in let bad : ⊥ = cc in bad

      by_standing : (y : Standing) → r.standing ≡ y → Both (suc n) (run env s (suc n)) d
      by_standing GoesOn e = by_end e (step env r.state).end refl
      by_standing (HasExited status) e = stays n d ih (ap (one_more_by env r) e) (exits status e) (ap (λ y. watched l (kept_at env s l n) y (step env r.state).end) e) h
      by_standing (HasTrapped trap) e = stays n d ih (ap (one_more_by env r) e) (traps trap e) (ap (λ y. watched l (kept_at env s l n) y (step env r.state).end) e) h

  first : (d : Carried) → kept_at env s l zero ≡ Some d → Both 0 (run env s zero) d
  unfolding run kept_at
  first d h =
      let e : carried_first ≡ d = cc in
      let at : At t s [] = record { function = t.entry; calls = []; over = over; reached = subst (λ v. Reached (kind_at t) t.entry t.entry v) (sym at_entry) main; stack = refl; returns = refl } in
      subst (λ c. Both 0 (run env s zero) c) e (says 0 s [] carried_first begins, (at, begins))

  pub along : (n : ℕ) (d : Carried) → kept_at env s l n ≡ Some d → Both n (run env s n) d
  along zero d h = first d h
  along (suc n) d h = more n (λ f q. along n f q) d h
