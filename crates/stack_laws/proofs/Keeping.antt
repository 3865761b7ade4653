-- Runs that are kept by some loops and by others, as long as something is so of them. (`kept_too` of bound_laws is the instance in which it always is.)
use Rattle.std.proofs.Common.{◌≡◌, ℕ, zero, suc, false, Option, Some, None, refl, sym, ap, ◌∙◌, subst}
use Rattle.std.proofs.lemmas.Bool.{cond-false}
use Rattle.scale_base.specs.declared.stepping.Stepped.{Stepped}
use Rattle.scale_base.specs.declared.stepping.StepEnd.{StepEnd}
use Rattle.scale_base.specs.declared.stepping.StepEnd.TheVariants.{Went, Exited, Trapped}
use Rattle.scale_base.specs.State.{Setting, State}
use Rattle.scale_base.specs.Step.{step}
use Rattle.scale_base.specs.Run.{Standing, GoesOn, HasExited, HasTrapped, run}
use Rattle.cost_theory.specs.Graph.{Loops}
use Rattle.graph_runs.specs.ReturnAddresses.{returns_after}
use Rattle.graph_runs.specs.KeptSteps.{Carried, counts_after, is_broken, keeps_counts, kept_more}
use Rattle.graph_runs.specs.KeptRuns.{watched, kept_at}
use Rattle.graph_runs.proofs.Laws.{kept_parts}

-- As long as it is so of a run, a kept step by one list of loops is one by another of the same headers and bodies, which it does not break.
module _ (l m : Loops) (same : (c : Carried) (x : Stepped) → counts_after m c x ≡ counts_after l c x) (env : Setting) (s : State)
    (P : ℕ → Type 0) (below : (n : ℕ) → P (suc n) → P n) (unbroken : (n : ℕ) (c d : Carried) (x : Stepped) → P (suc n) → kept_at env s m (suc n) ≡ Some d → kept_more m (Some c) x ≡ Some d → is_broken l d.counts x ≡ false) where
  still : (n : ℕ) (c d : Carried) (x : Stepped) → P (suc n) → kept_at env s m (suc n) ≡ Some d → kept_more m (Some c) x ≡ Some d → kept_more l (Some c) x ≡ Some d
  still n c d x so h k =
      let p = kept_parts m (counts_after m c x) x (returns_after c.returns x) d k in
      let counts : counts_after l c x ≡ d.counts = sym (same c x) ∙ p.1 in
      ap (keeps_counts l (counts_after l c x) x) p.0
      ∙ (ap (λ f. keeps_counts l f x (Some d.returns)) counts
      ∙ cond-false _ _ _ (unbroken n c d x so h k))

  more : (n : ℕ) → P (suc n) → ((c : Carried) → kept_at env s m n ≡ Some c → kept_at env s l n ≡ Some c) → (d : Carried) → kept_at env s m (suc n) ≡ Some d →
      (q : Standing) (end : StepEnd) → watched m (kept_at env s m n) q end ≡ Some d → watched l (kept_at env s l n) q end ≡ Some d
  more n so ih d whole GoesOn (Went x) h = by_before (kept_at env s m n) refl
    where
      by_before : (o : Option Carried) → kept_at env s m n ≡ o → kept_more l (kept_at env s l n) x ≡ Some d
      by_before None e = let q : kept_more m None x ≡ Some d = subst (λ o. kept_more m o x ≡ Some d) e h in let bad : ⊥ = cc in absurd bad
      by_before (Some c) e =
          let q : kept_more m (Some c) x ≡ Some d = subst (λ o. kept_more m o x ≡ Some d) e h in
          subst (λ o. kept_more l o x ≡ Some d) (sym (ih c e)) (still n c d x so whole q)
  more n so ih d whole GoesOn (Exited x status) h = ih d h
  more n so ih d whole GoesOn (Trapped trap) h = ih d h
  more n so ih d whole (HasExited status) end h = ih d h
  more n so ih d whole (HasTrapped trap) end h = ih d h

  next : (n : ℕ) → P (suc n) → ((c : Carried) → kept_at env s m n ≡ Some c → kept_at env s l n ≡ Some c) → (d : Carried) → kept_at env s m (suc n) ≡ Some d → kept_at env s l (suc n) ≡ Some d
  unfolding kept_at
  next n so ih d h = more n so ih d h (run env s n).standing (step env (run env s n).state).end h

  pub kept_while : (n : ℕ) → P n → (d : Carried) → kept_at env s m n ≡ Some d → kept_at env s l n ≡ Some d
  unfolding kept_at
  kept_while zero so d h = h
  kept_while (suc n) so d h = next n so (λ c q. kept_while n (below n so) c q) d h
