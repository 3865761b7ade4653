-- What calls and returns do: a call leaves the address behind it in x1, and a return goes where x1 says.
use Rattle.std.proofs.Common.{◌≡◌, ℕ, ◌-◌, ◌%◌, ⊎_elim, Bool, true, false, length, refl, sym, ap, ◌∙◌, subst, arith, Some, None}
use Rattle.std.specs.Prelude.{ℤ, pos, ◌==◌, ◌&&◌, ◌||◌}
use Rattle.std.specs.Ordering.{int_eq}
use Rattle.std.proofs.lemmas.Bool.{cond_both, eqb-true}
use Rattle.std.proofs.lemmas.Bool.Decides.{Decides-int_eq}
use Rattle.scale_base.specs.declared.instruction.Instr.{Instr}
use Rattle.scale_base.specs.declared.instruction.Instr.TheVariants.{Lui, Auipc, Jal, Jalr, Branch, Load, Store, Imm, Reg, Fence, Ecall, Ebreak}
use Rattle.scale_base.specs.declared.stepping.Move.TheVariants.{Local, Call, Return}
use Rattle.scale_base.specs.declared.stepping.Stepped.{Stepped}
use Rattle.scale_base.specs.declared.stepping.StepEnd.TheVariants.{Went, Exited}
use Rattle.scale_base.specs.Reading.{instr_of}
use Rattle.scale_base.specs.Arith.{plus, moved_by}
use Rattle.scale_base.specs.State.{Setting, State, reg, word_at}
use Rattle.scale_base.specs.Step.{Outcome, stepped, move_of, jumps, performs, step}
use Rattle.graph_runs.proofs.Laws.{EndsBy, IsDone, IsExit, IsTrap, step_done}
use Rattle.bound_laws.proofs.Laws.{step_of}
use Rattle.stack_laws.proofs.Stores.{put}

all_three : (a b c : Bool) → (a && b && c) ≡ true → (a ≡ true) × (b ≡ true) × (c ≡ true)
all_three false b c h = let bad : ⊥ = cc in absurd bad
all_three true false c h = let bad : ⊥ = cc in absurd bad
all_three true true false h = let bad : ⊥ = cc in absurd bad
all_three true true true h = (refl, refl, refl)

-- a call is `jal x1`, and a return `jalr x0,0(x1)`
call_is : (i : Instr) → move_of i ≡ Call → (offset : ℤ) × (i ≡ Jal 1 offset)
call_is (Jal rd offset) h = cond_both (rd == 1) Call Local (λ m. m ≡ Call → (o : ℤ) × (Jal rd offset ≡ Jal 1 o)) (λ e _. (offset, ap (λ r. Jal r offset) (eqb-true rd 1 e))) (λ _ q. let bad : ⊥ = cc in absurd bad) h
call_is (Jalr rd rs1 offset) h = cond_both ((rd == 0) && (rs1 == 1) && int_eq offset (pos 0)) Return Local (λ m. m ≡ Call → (o : ℤ) × (Jalr rd rs1 offset ≡ Jal 1 o)) (λ _ q. let bad : ⊥ = cc in absurd bad) (λ _ q. let bad : ⊥ = cc in absurd bad) h
call_is (Lui rd imm) h = let bad : ⊥ = cc in absurd bad
call_is (Auipc rd imm) h = let bad : ⊥ = cc in absurd bad
call_is (Branch op rs1 rs2 offset) h = let bad : ⊥ = cc in absurd bad
call_is (Load op rd rs1 offset) h = let bad : ⊥ = cc in absurd bad
call_is (Store op rs1 rs2 offset) h = let bad : ⊥ = cc in absurd bad
call_is (Imm op rd rs1 imm) h = let bad : ⊥ = cc in absurd bad
call_is (Reg op rd rs1 rs2) h = let bad : ⊥ = cc in absurd bad
call_is (Fence rd rs1 imm) h = let bad : ⊥ = cc in absurd bad
call_is Ecall h = let bad : ⊥ = cc in absurd bad
call_is Ebreak h = let bad : ⊥ = cc in absurd bad

return_is : (i : Instr) → move_of i ≡ Return → i ≡ Jalr 0 1 (pos 0)
return_is (Jalr rd rs1 offset) h = cond_both ((rd == 0) && (rs1 == 1) && int_eq offset (pos 0)) Return Local (λ m. m ≡ Return → Jalr rd rs1 offset ≡ Jalr 0 1 (pos 0))
    (λ e _. let p = all_three (rd == 0) (rs1 == 1) (int_eq offset (pos 0)) e in
    ap (λ r. Jalr r rs1 offset) (eqb-true rd 0 p.0) ∙ (ap (λ r. Jalr 0 r offset) (eqb-true rs1 1 p.1) ∙ ap (λ o. Jalr 0 1 o) ((Decides-int_eq offset (pos 0)).0 p.2)))
    (λ _ q. let bad : ⊥ = cc in absurd bad) h
return_is (Jal rd offset) h = cond_both (rd == 1) Call Local (λ m. m ≡ Return → Jal rd offset ≡ Jalr 0 1 (pos 0)) (λ _ q. let bad : ⊥ = cc in absurd bad) (λ _ q. let bad : ⊥ = cc in absurd bad) h
return_is (Lui rd imm) h = let bad : ⊥ = cc in absurd bad
return_is (Auipc rd imm) h = let bad : ⊥ = cc in absurd bad
return_is (Branch op rs1 rs2 offset) h = let bad : ⊥ = cc in absurd bad
return_is (Load op rd rs1 offset) h = let bad : ⊥ = cc in absurd bad
return_is (Store op rs1 rs2 offset) h = let bad : ⊥ = cc in absurd bad
return_is (Imm op rd rs1 imm) h = let bad : ⊥ = cc in absurd bad
return_is (Reg op rd rs1 rs2) h = let bad : ⊥ = cc in absurd bad
return_is (Fence rd rs1 imm) h = let bad : ⊥ = cc in absurd bad
return_is Ecall h = let bad : ⊥ = cc in absurd bad
return_is Ebreak h = let bad : ⊥ = cc in absurd bad

module _ (env : Setting) (s : State) (i : Instr) (here : instr_of (word_at s.bytes s.pc) ≡ Some i) (x : Stepped) (went : (step env s).end ≡ Went x) where
  -- the move and the target of a step are those of its instruction
  pub moved_as : (x.moved ≡ move_of i) × ((step env s).state.pc ≡ x.next)
  moved_as = ⊎_elim
      (λ (trap : IsTrap (step env s).end). absurd (subst IsTrap went trap))
      (λ (d : (j : Instr) × IsDone env s j (step env s).end (step env s).state).
      let both : Some d.0 ≡ Some i = sym d.1.instr ∙ here in
      let same : d.0 ≡ i = cc in
      let ends : EndsBy d.0 s (Went x) (step env s).state = subst (λ e. EndsBy d.0 s e (step env s).state) went d.1.ends in
      (ends.moved ∙ ap move_of same, ends.next)) (step_done env s)

  pub call_links : length s.regs ≡ 32 → x.moved ≡ Call → reg (step env s).state.regs 1 ≡ plus s.pc 4
  call_links size moved =
      let c = call_is i (sym moved_as.0 ∙ moved) in
      step_of (λ o. o.end ≡ Went x → reg o.state.regs 1 ≡ plus s.pc 4) env s i here (λ end. subst (λ j. (performs env s i j).end ≡ Went x → reg (performs env s i j).state.regs 1 ≡ plus s.pc 4) (sym c.1) (jump (moved_by s.pc c.0)) end)
      (λ end. let bad : ⊥ = cc in absurd bad) went
    where
      jump : (target : ℕ) → (jumps env s i 1 target).end ≡ Went x → reg (jumps env s i 1 target).state.regs 1 ≡ plus s.pc 4
      jump target = cond_both (target % 4 == 0) _ _ (λ (o : Outcome). o.end ≡ Went x → reg o.state.regs 1 ≡ plus s.pc 4)
          (λ _ end. put s.regs 1 (plus s.pc 4) (omega arith, omega arith) size) (λ _ end. let bad : ⊥ = cc in absurd bad)

  pub returns_to : x.moved ≡ Return → x.next ≡ plus (reg s.regs 1) 0 - plus (reg s.regs 1) 0 % 2
  returns_to moved =
      let e : i ≡ Jalr 0 1 (pos 0) = return_is i (sym moved_as.0 ∙ moved) in
      sym moved_as.1 ∙ step_of (λ o. o.end ≡ Went x → o.state.pc ≡ target) env s i here (λ end. subst (λ j. (performs env s i j).end ≡ Went x → (performs env s i j).state.pc ≡ target) (sym e) jump end)
      (λ end. let bad : ⊥ = cc in absurd bad) went
    where
      target : ℕ
      target = plus (reg s.regs 1) 0 - plus (reg s.regs 1) 0 % 2

      jump : (jumps env s i 0 target).end ≡ Went x → (jumps env s i 0 target).state.pc ≡ target
      jump = cond_both (target % 4 == 0) _ _ (λ (o : Outcome). o.end ≡ Went x → o.state.pc ≡ target) (λ _ end. refl) (λ _ end. let bad : ⊥ = cc in absurd bad)

-- a step that exits is local
pub exit_moves : (env : Setting) (s : State) (x : Stepped) (status : ℕ) → (step env s).end ≡ Exited x status → x.moved ≡ Local
exit_moves env s x status end = ⊎_elim
    (λ (trap : IsTrap (step env s).end). absurd (subst IsTrap end trap))
    (λ (d : (i : Instr) × IsDone env s i (step env s).end (step env s).state).
    let exit : IsExit d.0 s x = subst (λ e. EndsBy d.0 s e (step env s).state) end d.1.ends in
    subst (λ o. o.end ≡ Exited x status → x.moved ≡ Local) (sym (d.1.is ∙ ap (λ i. performs env s i i) exit.exits)) service end) (step_done env s)
  where
    service : (performs env s Ecall Ecall).end ≡ Exited x status → x.moved ≡ Local
    service = cond_both ((reg s.regs 17 == 93) || (reg s.regs 17 == 94)) _ _ (λ (o : Outcome). o.end ≡ Exited x status → x.moved ≡ Local)
        (λ _ h. let same : stepped env s Ecall false None s.pc ≡ x = cc in sym (ap (λ y. y.moved) same))
        (λ _ h. let bad : ⊥ = cc in absurd bad)
