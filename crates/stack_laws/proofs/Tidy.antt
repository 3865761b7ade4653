-- Of tidy runs: what comes before them, their steps, and the activations behind a step.
use Rattle.std.proofs.Common.{◌≡◌, ℕ, suc, ◌≤◌, List, [], ◌∷◌, refl, sym, ap, ◌∙◌, subst, arith}
use Rattle.std.proofs.lemmas.Bool.{both_ways}
use Rattle.scale_base.specs.declared.stepping.Move.{Move}
use Rattle.scale_base.specs.declared.stepping.Move.TheVariants.{Local, Call, Return}
use Rattle.scale_base.specs.declared.stepping.Stepped.{Stepped}
use Rattle.scale_base.specs.declared.stepping.StepEnd.TheVariants.{Went}
use Rattle.scale_base.specs.State.{Setting, State, reg}
use Rattle.scale_base.specs.Step.{step}
use Rattle.scale_base.specs.Run.{run}
use Rattle.bound_laws.specs.Values.{Values}
use Rattle.stack_laws.specs.Stacks.{Stacks, View, view_of}
use Rattle.stack_laws.specs.Tidy.{Activation, activations_by, activations_behind, activations, IsTidyStep, IsTidy, IsCertain}
use Rattle.stack_laws.specs.Laws.{CertainRunsAreTidy}
use Rattle.stack_laws.proofs.Frames.{waiting}

-- the one that runs, in front of those that wait
abbrev pub activations_of : Values → ℕ → List ℕ → List ℕ → List View → List Activation
activations_of v pc calls begun xs = record { function = v.function pc; stack = reg begun 2 } ∷ waiting v calls xs

-- where nothing is doubtful
pub certain_step : (w : Stacks) → IsCertain w → (a : ℕ) (ys : List Activation) (before after : ℕ → ℕ) → IsTidyStep w a ys before after
certain_step w certain a ys before after d = absurd (both_ways (w.doubtful a) (certain a) d)

pub certain_tidy : CertainRunsAreTidy
certain_tidy v w env s certain n m lt = certain_step w certain (run env s m).state.pc (activations v env s m) (run env s m).state.bytes (run env s (suc m)).state.bytes

module _ (v : Values) (w : Stacks) (env : Setting) (s : State) (n : ℕ) where
  pub tidy_up_to : (m : ℕ) → m ≤ n → IsTidy v w env s n → IsTidy v w env s m
  tidy_up_to m le tidy j lt = tidy j (omega arith)

  pub tidy_before : IsTidy v w env s (suc n) → IsTidy v w env s n
  tidy_before tidy m lt = tidy m (omega arith)

  pub tidy_step : (ys : List Activation) → activations v env s n ≡ ys → (run env s (suc n)).state ≡ (step env (run env s n).state).state → IsTidy v w env s (suc n) →
      IsTidyStep w (run env s n).state.pc ys (run env s n).state.bytes (step env (run env s n).state).state.bytes
  tidy_step ys e same tidy = subst (λ o. IsTidyStep w (run env s n).state.pc o (run env s n).state.bytes (step env (run env s n).state).state.bytes) e
      (subst (λ u. IsTidyStep w (run env s n).state.pc (activations v env s n) (run env s n).state.bytes u.bytes) same (tidy n (omega arith)))

module _ (v : Values) (env : Setting) (s : State) where
  pub open_first : activations v env s 0 ≡ activations_of v s.pc [] s.regs []
  unfolding activations
  open_first = refl

  module _ (n : ℕ) (x : Stepped) where
    abbrev u : State
    u = (run env s n).state

    abbrev next : State
    next = (step env u).state

    moves : (m : Move) (ys : List Activation) → (step env u).end ≡ Went x → x.moved ≡ m → activations v env s n ≡ ys → activations v env s (suc n) ≡ activations_by v ys m next
    unfolding activations
    moves m ys went moved e = ap (λ o. activations_behind v (activations v env s n) o next) went ∙ (ap (λ o. activations_by v (activations v env s n) o next) moved ∙ ap (λ o. activations_by v o m next) e)

    module _ (calls begun : List ℕ) (xs : List View) where
      abbrev Opened : Type 0
      Opened = activations v env s n ≡ activations_of v u.pc calls begun xs

      pub open_over : (step env u).end ≡ Went x → x.moved ≡ Local → v.function next.pc ≡ v.function u.pc → Opened → activations v env s (suc n) ≡ activations_of v next.pc calls begun xs
      open_over went moved same e = moves Local (activations_of v u.pc calls begun xs) went moved e ∙ ap (λ f. record { function = f; stack = reg begun 2 } ∷ waiting v calls xs) (sym same)

      pub open_back : (z : ℕ) (us : List ℕ) (y : View) (rest : List View) → (step env u).end ≡ Went x → x.moved ≡ Return → calls ≡ z ∷ us → xs ≡ y ∷ rest → v.function next.pc ≡ v.function z → Opened →
          activations v env s (suc n) ≡ activations_of v next.pc us y.begun rest
      open_back z us y rest went moved before views same e =
          moves Return (activations_of v u.pc calls begun xs) went moved e
          ∙ (ap (λ c. waiting v c xs) before
          ∙ (ap (λ l. waiting v (z ∷ us) l) views ∙ ap (λ f. record { function = f; stack = reg y.begun 2 } ∷ waiting v us rest) (sym same)))

  module _ (w : Stacks) (n : ℕ) (x : Stepped) (calls begun : List ℕ) (xs : List View) where
    pub open_call : (step env (run env s n).state).end ≡ Went x → x.moved ≡ Call → activations v env s n ≡ activations_of v (run env s n).state.pc calls begun xs →
        activations v env s (suc n) ≡ activations_of v (step env (run env s n).state).state.pc ((run env s n).state.pc ∷ calls) (step env (run env s n).state).state.regs (view_of w begun (run env s n).state.regs (run env s n).state.bytes ∷ xs)
    open_call went moved e = moves n x Call (activations_of v (run env s n).state.pc calls begun xs) went moved e
