-- Runs that are kept by loops that have to turn less often, as long as something is so of them.
use Rattle.std.proofs.Common.{◌≡◌, ℕ, zero, suc, false, Option, Some, None, refl, sym, ap, ◌∙◌, subst}
use Rattle.std.proofs.lemmas.Bool.{cond-false}
use Rattle.scale_base.specs.declared.stepping.Stepped.{Stepped}
use Rattle.scale_base.specs.declared.stepping.StepEnd.{StepEnd}
use Rattle.scale_base.specs.declared.stepping.StepEnd.TheVariants.{Went, Exited, Trapped}
use Rattle.scale_base.specs.State.{Setting, State}
use Rattle.scale_base.specs.Step.{step}
use Rattle.scale_base.specs.Run.{Standing, GoesOn, HasExited, HasTrapped, run}
use Rattle.cost_theory.specs.Graph.{Loops}
use Rattle.graph_runs.specs.ReturnAddresses.{returns_after}
use Rattle.graph_runs.specs.KeptSteps.{Carried, counts_after, is_broken, keeps_counts, kept_more}
use Rattle.graph_runs.specs.KeptRuns.{watched, kept_at}
use Rattle.graph_runs.proofs.Laws.{kept_parts}

-- a step that goes on of a run that is kept by some loops, after n steps, with what is carried before and behind it
pub record StepKept (env : Setting) (s : State) (l : Loops) (n : ℕ) (c d : Carried) (x : Stepped) : Type 0 where
  pub goes : (run env s n).standing ≡ GoesOn
  pub went : (step env (run env s n).state).end ≡ Went x
  pub behind : kept_at env s l (suc n) ≡ Some d
  pub more : kept_more l (Some c) x ≡ Some d

-- it is kept by other loops of the same headers and bodies, as long as it is so of the run, where no such step breaks them
module _ (l m : Loops) (same : (c : Carried) (x : Stepped) → counts_after m c x ≡ counts_after l c x) (env : Setting) (s : State)
    (P : ℕ → Type 0) (below : (n : ℕ) → P (suc n) → P n) (unbroken : (n : ℕ) (c d : Carried) (x : Stepped) → P (suc n) → StepKept env s m n c d x → is_broken l d.counts x ≡ false) where
  still : (n : ℕ) (c d : Carried) (x : Stepped) → P (suc n) → StepKept env s m n c d x → kept_more l (Some c) x ≡ Some d
  still n c d x now kept =
      let p = kept_parts m (counts_after m c x) x (returns_after c.returns x) d kept.more in
      let counts : counts_after l c x ≡ d.counts = sym (same c x) ∙ p.1 in
      ap (keeps_counts l (counts_after l c x) x) p.0
      ∙ (ap (λ f. keeps_counts l f x (Some d.returns)) counts
      ∙ cond-false _ _ _ (unbroken n c d x now kept))

  next : (n : ℕ) → P (suc n) → ((c : Carried) → kept_at env s m n ≡ Some c → kept_at env s l n ≡ Some c) → (d : Carried) → kept_at env s m (suc n) ≡ Some d → kept_at env s l (suc n) ≡ Some d
  unfolding kept_at
  next n now ih d whole = by (run env s n).standing refl (step env (run env s n).state).end refl whole
    where
      going : (x : Stepped) → (run env s n).standing ≡ GoesOn → (step env (run env s n).state).end ≡ Went x → (o : Option Carried) → kept_at env s m n ≡ o → kept_more m o x ≡ Some d → kept_more l (kept_at env s l n) x ≡ Some d
      going x goes went None e h = let bad : ⊥ = cc in absurd bad
      going x goes went (Some c) e h = subst (λ o. kept_more l o x ≡ Some d) (sym (ih c e)) (still n c d x now (record { goes = goes; went = went; behind = whole; more = h }))

      by : (q : Standing) → (run env s n).standing ≡ q → (end : StepEnd) → (step env (run env s n).state).end ≡ end → watched m (kept_at env s m n) (run env s n).standing (step env (run env s n).state).end ≡ Some d →
          watched l (kept_at env s l n) (run env s n).standing (step env (run env s n).state).end ≡ Some d
      by q e end f h =
          subst (λ y. watched l (kept_at env s l n) y (step env (run env s n).state).end ≡ Some d) (sym e)
          (subst (λ y. watched l (kept_at env s l n) q y ≡ Some d) (sym f)
          (so q e end f (subst (λ y. watched m (kept_at env s m n) q y ≡ Some d) f (subst (λ y. watched m (kept_at env s m n) y (step env (run env s n).state).end ≡ Some d) e h))))
        where
          so : (q : Standing) → (run env s n).standing ≡ q → (end : StepEnd) → (step env (run env s n).state).end ≡ end → watched m (kept_at env s m n) q end ≡ Some d → watched l (kept_at env s l n) q end ≡ Some d
          so GoesOn e (Went x) f h = going x e f (kept_at env s m n) refl h
          so GoesOn e (Exited x status) f h = ih d h
          so GoesOn e (Trapped trap) f h = ih d h
          so (HasExited status) e end f h = ih d h
          so (HasTrapped trap) e end f h = ih d h

  pub kept_by_steps : (n : ℕ) → P n → (d : Carried) → kept_at env s m n ≡ Some d → kept_at env s l n ≡ Some d
  unfolding kept_at
  kept_by_steps zero now d h = h
  kept_by_steps (suc n) now d h = next n now (λ c q. kept_by_steps n (below n now) c q) d h
