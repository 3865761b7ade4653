-- What an operation with a number or a register puts into its register.
use Rattle.std.proofs.Common.{◌≡◌, ℕ, length, subst, sym, Some}
use Rattle.std.specs.Prelude.{ℤ}
use Rattle.scale_base.specs.declared.instruction.ImmOp.{ImmOp}
use Rattle.scale_base.specs.declared.instruction.RegOp.{RegOp}
use Rattle.scale_base.specs.declared.instruction.Instr.{Instr}
use Rattle.scale_base.specs.declared.instruction.Instr.TheVariants.{Imm, Reg}
use Rattle.scale_base.specs.declared.stepping.Stepped.{Stepped}
use Rattle.scale_base.specs.declared.stepping.StepEnd.TheVariants.{Went}
use Rattle.scale_base.specs.Reading.{instr_of}
use Rattle.scale_base.specs.Arith.{imm_result, reg_result}
use Rattle.scale_base.specs.State.{Setting, State, reg, word_at}
use Rattle.scale_base.specs.Step.{performs, step}
use Rattle.bound_laws.specs.Values.{IsRegister}
use Rattle.bound_laws.proofs.Laws.{step_of}
use Rattle.stack_laws.proofs.Stores.{put}

module _ (env : Setting) (s : State) (size : length s.regs ≡ 32) (i : Instr) (here : instr_of (word_at s.bytes s.pc) ≡ Some i) (x : Stepped) (went : (step env s).end ≡ Went x) where
  pub numbers : (op : ImmOp) (r rs : ℕ) (imm : ℤ) → IsRegister r → i ≡ Imm op r rs imm → reg (step env s).state.regs r ≡ imm_result op (reg s.regs rs) imm
  numbers op r rs imm is e = step_of (λ o. o.end ≡ Went x → reg o.state.regs r ≡ imm_result op (reg s.regs rs) imm) env s i here
      (λ end. subst (λ j. reg (performs env s i j).state.regs r ≡ imm_result op (reg s.regs rs) imm) (sym e) (put s.regs r (imm_result op (reg s.regs rs) imm) is size)) (λ end. let bad : ⊥ = cc in absurd bad) went

  pub results : (op : RegOp) (r rs1 rs2 : ℕ) → IsRegister r → i ≡ Reg op r rs1 rs2 → reg (step env s).state.regs r ≡ reg_result op (reg s.regs rs1) (reg s.regs rs2)
  results op r rs1 rs2 is e = step_of (λ o. o.end ≡ Went x → reg o.state.regs r ≡ reg_result op (reg s.regs rs1) (reg s.regs rs2)) env s i here
      (λ end. subst (λ j. reg (performs env s i j).state.regs r ≡ reg_result op (reg s.regs rs1) (reg s.regs rs2)) (sym e) (put s.regs r (reg_result op (reg s.regs rs1) (reg s.regs rs2)) is size)) (λ end. let bad : ⊥ = cc in absurd bad) went
