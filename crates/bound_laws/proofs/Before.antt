-- What is kept up to a step is kept up to each step before.
use Rattle.std.proofs.Common.{◌≡◌, ℕ, zero, suc, ◌<◌, ◌≤◌, ◌⊎◌, inl, inr, ⊎_elim, refl, sym, subst, arith, Option, Some, None}
use Rattle.std.proofs.lemmas.Bool.{cases_lt}
use Rattle.scale_base.specs.declared.stepping.StepEnd.{StepEnd}
use Rattle.scale_base.specs.declared.stepping.StepEnd.TheVariants.{Went, Exited, Trapped}
use Rattle.scale_base.specs.State.{Setting, State}
use Rattle.scale_base.specs.Step.{step}
use Rattle.scale_base.specs.Run.{Standing, GoesOn, HasExited, HasTrapped, run}
use Rattle.cost_theory.specs.Graph.{Loops}
use Rattle.graph_runs.specs.KeptSteps.{Carried}
use Rattle.graph_runs.specs.KeptRuns.{watched, kept_at}

module _ (env : Setting) (s : State) (l : Loops) where
  before_end : (o : Option Carried) (q : Standing) (end : StepEnd) (d : Carried) → watched l o q end ≡ Some d → (c : Carried) × (o ≡ Some c)
  before_end None GoesOn (Went x) d h = let bad : ⊥ = cc in absurd bad
  before_end None GoesOn (Exited x status) d h = let bad : ⊥ = cc in absurd bad
  before_end None GoesOn (Trapped trap) d h = let bad : ⊥ = cc in absurd bad
  before_end None (HasExited status) end d h = let bad : ⊥ = cc in absurd bad
  before_end None (HasTrapped trap) end d h = let bad : ⊥ = cc in absurd bad
  before_end (Some c) q end d h = (c, refl)

  before_last : (n : ℕ) (d : Carried) → kept_at env s l (suc n) ≡ Some d → (c : Carried) × (kept_at env s l n ≡ Some c)
  unfolding kept_at
  before_last n d h = before_end (kept_at env s l n) (run env s n).standing (step env (run env s n).state).end d h

  pub kept_before : (n m : ℕ) (d : Carried) → m ≤ n → kept_at env s l n ≡ Some d → (c : Carried) × (kept_at env s l m ≡ Some c)
  kept_before zero m d le h = let e : 0 ≡ m = omega arith in subst (λ k. (c : Carried) × (kept_at env s l k ≡ Some c)) e (d, h)
  kept_before (suc n) m d le h = ⊎_elim
      (λ (e : m ≡ suc n). subst (λ k. (c : Carried) × (kept_at env s l k ≡ Some c)) (sym e) (d, h))
      (λ (lt : m ≤ n). let b = before_last n d h in kept_before n m b.0 lt b.1) (last m n le)
    where
      last : (m n : ℕ) → m ≤ suc n → (m ≡ suc n) ⊎ (m ≤ n)
      last m n le = ⊎_elim (λ (b : n < m). inl (let e : m ≡ suc n = omega arith in e)) (λ (a : m ≤ n). inr a) (cases_lt n m)
