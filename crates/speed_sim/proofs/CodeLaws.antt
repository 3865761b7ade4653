-- The code of a machine after one step more.
use Rattle.std.proofs.Common.{◌≡◌, ℕ, false, ap, sym, ◌∙◌, subst, inl, inr}
use Rattle.scale_base.specs.declared.stepping.Stepped.{Stepped}
use Rattle.scale_base.specs.declared.stepping.StepEnd.TheVariants.{Went}
use Rattle.scale_base.specs.Layout.{may_write}
use Rattle.scale_base.specs.State.{Setting, State}
use Rattle.scale_base.specs.Step.{step}
use Rattle.scale_base.proofs.Laws.{outcome}
use Rattle.graph_runs.proofs.Laws.{IsTrap, step_done}
use Rattle.rv_machine.specs.declared.code.Code.{Code}
use Rattle.rv_machine.specs.Code.{IsDecodedCode}
use Rattle.rv_machine.proofs.Laws.{code_stays}

-- a step writes no byte that may not be written
bytes_kept : (env : Setting) (s u : State) (x : Stepped) → outcome (Went x) u ≡ step env s → (a : ℕ) → may_write env.layout a ≡ false → u.bytes a ≡ s.bytes a
bytes_kept env s u x e a none =
    elim (step_done env s) [
      | inl trap ↦ (let never : IsTrap (Went x) = subst IsTrap (sym (ap (λ o. o.end) e)) trap in absurd never)
      | inr done ↦ ap (λ o. o.state.bytes a) e ∙ done.1.bytes a none
    ]

pub code_kept : (env : Setting) (s : State) (env' : Setting) (u : State) (x : Stepped) (code : Code) → outcome (Went x) u ≡ step env s → env' ≡ env →
    IsDecodedCode env.layout s.bytes code → IsDecodedCode env'.layout u.bytes code
code_kept env s env' u x code e same h =
    subst (λ (v : Setting). IsDecodedCode v.layout u.bytes code) (sym same) (code_stays env.layout s.bytes u.bytes code (bytes_kept env s u x e) h)
