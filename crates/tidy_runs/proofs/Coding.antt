-- The code of a machine stays that of its words behind a step after which the run goes on.
use Rattle.std.proofs.Common.{◌≡◌, ℕ, false, ap, sym, ◌∙◌, subst, inl, inr}
use Rattle.scale_base.specs.declared.stepping.StepEnd.{StepEnd}
use Rattle.scale_base.specs.declared.stepping.StepEnd.TheVariants.{Went, Exited, Trapped}
use Rattle.scale_base.specs.Layout.{may_write}
use Rattle.scale_base.specs.State.{Setting, State}
use Rattle.scale_base.specs.Step.{step}
use Rattle.graph_runs.proofs.Laws.{IsTrap, step_done}
use Rattle.rv_machine.specs.declared.code.Code.{Code}
use Rattle.rv_machine.specs.Code.{IsDecodedCode}
use Rattle.rv_machine.proofs.Laws.{code_stays}
use Rattle.tidy_runs.specs.Looking.{DoesGoOn}

no_trap : (end : StepEnd) → DoesGoOn end → IsTrap end → ⊥
no_trap (Went x) goes trap = trap
no_trap (Exited x status) goes trap = goes
no_trap (Trapped trap) goes is = goes

-- a step writes no byte that may not be written
bytes_kept : (env : Setting) (s next : State) → DoesGoOn (step env s).end → next ≡ (step env s).state → (a : ℕ) → may_write env.layout a ≡ false → next.bytes a ≡ s.bytes a
bytes_kept env s next goes is a none =
    elim (step_done env s) [
      | inl trap ↦ absurd (no_trap (step env s).end goes trap)
      | inr done ↦ ap (λ (u : State). u.bytes a) is ∙ done.1.bytes a none
    ]

pub code_on : (env : Setting) (s next : State) (setting : Setting) (code : Code) → DoesGoOn (step env s).end → next ≡ (step env s).state → setting ≡ env →
    IsDecodedCode env.layout s.bytes code → IsDecodedCode setting.layout next.bytes code
code_on env s next setting code goes is same h =
    subst (λ (e : Setting). IsDecodedCode e.layout next.bytes code) (sym same) (code_stays env.layout s.bytes next.bytes code (bytes_kept env s next goes is) h)
