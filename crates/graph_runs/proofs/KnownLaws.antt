-- What is known of x17 holds along each step.
use Rattle.std.proofs.Common.{◌≡◌, ℕ, zero, suc, ◌-◌, ◌<◌, ◌≤◌, ◌%◌, Bool, true, false, length, refl, sym, ap, ◌∙◌, subst, arith, Option, Some, None, get_or-set_same}
use Rattle.std.specs.Prelude.{◌==◌, ◌||◌, ◌&&◌, not}
use Rattle.std.proofs.lemmas.Bool.{and_parts, or_parts, eqb-true, not-false, cond-true, cond-false, both_ways}
use Rattle.scale_base.specs.declared.instruction.ImmOp.TheVariants.{Addi, Slti, Sltiu, Xori, Ori, Andi, Slli, Srli, Srai}
use Rattle.scale_base.specs.declared.instruction.Instr.{Instr}
use Rattle.scale_base.specs.declared.instruction.Instr.TheVariants.{Lui, Auipc, Jal, Jalr, Branch, Load, Store, Imm, Reg, Fence, Ecall, Ebreak}
use Rattle.scale_base.specs.Arith.{plus, imm_result}
use Rattle.scale_base.specs.State.{Setting, State, reg, with_reg}
use Rattle.scale_base.specs.Step.{performs, step}
use Rattle.scale_base.proofs.Laws.{step_zero}
use Rattle.code_text.specs.Text.{Text, is_text_address, instr_at, jump_of, is_target, follows, puts17, leaves17, or_passed, known_behind, known_within}
use Rattle.graph_runs.specs.TextStates.{IsTextOf, IsOverText}
use Rattle.graph_runs.proofs.StepFacts.{IsDone}
use Rattle.graph_runs.proofs.TextFacts.{target_is, follows_word, word_bound, not_written}
use Rattle.machine_laws.proofs.Laws.{step_length}

-- what is known at v: no jump goes there, and the word before it passes it on
pub known_parts : (t : Text) (env : Setting) → IsTextOf t env → (n v k : ℕ) → known_within t n v ≡ Some k →
    (is_target t v ≡ false) × (4 ≤ v) × ((m : ℕ) × (known_behind (instr_at t (v - 4)) (known_within t m (v - 4)) ≡ Some k))
unfolding known_within
known_parts t env ok zero v k h = let bad : ⊥ = cc in absurd bad
known_parts t env ok (suc n) v k h = go (is_target t v || not (follows t v)) refl
  where
    go : (b : Bool) → (is_target t v || not (follows t v)) ≡ b → (is_target t v ≡ false) × (4 ≤ v) × ((m : ℕ) × (known_behind (instr_at t (v - 4)) (known_within t m (v - 4)) ≡ Some k))
    go true e = let q : known_within t (suc n) v ≡ None = cond-true _ _ _ e in let bad : ⊥ = cc in absurd bad
    go false e =
        let parts = or_parts (is_target t v) (not (follows t v)) e in
        let q : known_within t (suc n) v ≡ known_behind (instr_at t (v - 4)) (known_within t n (v - 4)) = cond-false _ _ _ e in
        let f = follows_word t env ok v (not-false (follows t v) parts.1) in
        (parts.0, f.0, (n, sym q ∙ h))

-- what the instruction puts into x17
puts_17 : (env : Setting) (s : State) (i j : Instr) (k : ℕ) → reg s.regs 0 ≡ 0 → length s.regs ≡ 32 → puts17 j ≡ Some k → reg (performs env s i j).state.regs 17 ≡ k
puts_17 env s i (Lui rd imm) k z size h = let bad : ⊥ = cc in absurd bad
puts_17 env s i (Auipc rd imm) k z size h = let bad : ⊥ = cc in absurd bad
puts_17 env s i (Jal rd offset) k z size h = let bad : ⊥ = cc in absurd bad
puts_17 env s i (Jalr rd rs1 offset) k z size h = let bad : ⊥ = cc in absurd bad
puts_17 env s i (Branch op rs1 rs2 offset) k z size h = let bad : ⊥ = cc in absurd bad
puts_17 env s i (Load op rd rs1 offset) k z size h = let bad : ⊥ = cc in absurd bad
puts_17 env s i (Store op rs1 rs2 offset) k z size h = let bad : ⊥ = cc in absurd bad
puts_17 env s i (Imm Addi rd rs1 imm) k z size h = go ((rd == 17) && (rs1 == 0)) refl
  where
    go : (b : Bool) → ((rd == 17) && (rs1 == 0)) ≡ b → reg (with_reg s.regs rd (imm_result Addi (reg s.regs rs1) imm)) 17 ≡ k
    go false e = let q : puts17 (Imm Addi rd rs1 imm) ≡ None = cond-false _ _ _ e in let bad : ⊥ = cc in absurd bad
    go true e =
        let p = and_parts (rd == 17) (rs1 == 0) e in
        let d : rd ≡ 17 = eqb-true rd 17 p.0 in
        let r : rs1 ≡ 0 = eqb-true rs1 0 p.1 in
        let q : puts17 (Imm Addi rd rs1 imm) ≡ Some (imm_result Addi 0 imm) = cond-true _ _ _ e in
        let value : imm_result Addi 0 imm ≡ k = cc in
        let from : reg s.regs rs1 ≡ 0 = ap (reg s.regs) r ∙ z in
        let lt : 17 < length s.regs = omega arith in
        ap (λ x. reg (with_reg s.regs x (imm_result Addi (reg s.regs rs1) imm)) 17) d
        ∙ (get_or-set_same s.regs 17 (imm_result Addi (reg s.regs rs1) imm) 0 lt ∙ (ap (λ x. imm_result Addi x imm) from ∙ value))
puts_17 env s i (Imm Slti rd rs1 imm) k z size h = let bad : ⊥ = cc in absurd bad
puts_17 env s i (Imm Sltiu rd rs1 imm) k z size h = let bad : ⊥ = cc in absurd bad
puts_17 env s i (Imm Xori rd rs1 imm) k z size h = let bad : ⊥ = cc in absurd bad
puts_17 env s i (Imm Ori rd rs1 imm) k z size h = let bad : ⊥ = cc in absurd bad
puts_17 env s i (Imm Andi rd rs1 imm) k z size h = let bad : ⊥ = cc in absurd bad
puts_17 env s i (Imm Slli rd rs1 imm) k z size h = let bad : ⊥ = cc in absurd bad
puts_17 env s i (Imm Srli rd rs1 imm) k z size h = let bad : ⊥ = cc in absurd bad
puts_17 env s i (Imm Srai rd rs1 imm) k z size h = let bad : ⊥ = cc in absurd bad
puts_17 env s i (Reg op rd rs1 rs2) k z size h = let bad : ⊥ = cc in absurd bad
puts_17 env s i (Fence rd rs1 imm) k z size h = let bad : ⊥ = cc in absurd bad
puts_17 env s i Ecall k z size h = let bad : ⊥ = cc in absurd bad
puts_17 env s i Ebreak k z size h = let bad : ⊥ = cc in absurd bad

-- How a step comes to its next address: by a jump of the text, to the address after its own, or to that after a call.
pub data IsWay (t : Text) (u next : ℕ) : Type 0 where
  jump : jump_of (instr_at t u) u ≡ Some next → IsWay t u next
  after : next ≡ plus u 4 → IsWay t u next
  back : (w : ℕ) (i : Instr) → next ≡ plus w 4 → is_text_address t w ≡ true → instr_at t w ≡ Some i → puts17 i ≡ None → leaves17 i ≡ false → IsWay t u next

before : (t : Text) (env : Setting) → IsTextOf t env → (u v : ℕ) → is_text_address t u ≡ true → v ≡ plus u 4 → v - 4 ≡ u
before t env ok u v h e = let b = word_bound t env ok u h in omega arith

nothing_behind : (t : Text) (w k : ℕ) (i : Instr) (b : Option ℕ) → instr_at t w ≡ Some i → puts17 i ≡ None → leaves17 i ≡ false → known_behind (instr_at t w) b ≡ Some k → ⊥
nothing_behind t w k i b at puts leaves h =
    let e : known_behind (instr_at t w) b ≡ or_passed (puts17 i) (leaves17 i) b = ap (λ o. known_behind o b) at in
    let f : or_passed (puts17 i) (leaves17 i) b ≡ None = ap (λ o. or_passed o (leaves17 i) b) puts ∙ ap (λ l. or_passed None l b) leaves in
    cc

module _ (t : Text) (env : Setting) (ok : IsTextOf t env) (s : State) (over : IsOverText t s) (here : is_text_address t s.pc ≡ true) (aligned : s.pc % 4 ≡ 0)
    (i : Instr) (done : IsDone env s i (step env s).end (step env s).state) (at : instr_at t s.pc ≡ Some i) where
  passed : (m k : ℕ) (p : Option ℕ) (l : Bool) → puts17 i ≡ p → leaves17 i ≡ l → or_passed p l (known_within t m s.pc) ≡ Some k → reg (step env s).state.regs 17 ≡ k
  passed m k (Some j) l puts leaves h =
      let e : j ≡ k = cc in
      ap (λ o. reg o.state.regs 17) done.is ∙ (puts_17 env s i i j over.zero over.size puts ∙ e)
  passed m k None true puts leaves h = done.leaves leaves ∙ over.known m k h
  passed m k None false puts leaves h = let bad : ⊥ = cc in absurd bad

  known_next : IsWay t s.pc (step env s).state.pc → (n k : ℕ) → known_within t n (step env s).state.pc ≡ Some k → reg (step env s).state.regs 17 ≡ k
  known_next way n k h = go way (known_parts t env ok n (step env s).state.pc k h)
    where
      go : IsWay t s.pc (step env s).state.pc →
          (is_target t (step env s).state.pc ≡ false) × (4 ≤ (step env s).state.pc) × ((m : ℕ) × (known_behind (instr_at t ((step env s).state.pc - 4)) (known_within t m ((step env s).state.pc - 4)) ≡ Some k)) →
          reg (step env s).state.regs 17 ≡ k
      go (jump j) parts = absurd (both_ways (is_target t (step env s).state.pc) parts.0 (target_is t env ok s.pc (step env s).state.pc here aligned j))
      go (after e) parts =
          let b : (step env s).state.pc - 4 ≡ s.pc = before t env ok s.pc (step env s).state.pc here e in
          let q : known_behind (instr_at t s.pc) (known_within t parts.2.0 s.pc) ≡ Some k = subst (λ v. known_behind (instr_at t v) (known_within t parts.2.0 v) ≡ Some k) b parts.2.1 in
          let r : or_passed (puts17 i) (leaves17 i) (known_within t parts.2.0 s.pc) ≡ Some k = subst (λ o. known_behind o (known_within t parts.2.0 s.pc) ≡ Some k) at q in
          passed parts.2.0 k (puts17 i) (leaves17 i) refl refl r
      go (back w j e wt wi puts leaves) parts =
          let b : (step env s).state.pc - 4 ≡ w = before t env ok w (step env s).state.pc wt e in
          absurd (nothing_behind t w k j (known_within t parts.2.0 w) wi puts leaves (subst (λ v. known_behind (instr_at t v) (known_within t parts.2.0 v) ≡ Some k) b parts.2.1))

  -- the state after a step is one of a run over the text
  pub over_next : IsWay t s.pc (step env s).state.pc → IsOverText t (step env s).state
  over_next way = record {
    zero = step_zero env s over.zero;
    size = step_length env s ∙ over.size;
    text = λ a h. done.bytes a (not_written t env ok a h) ∙ over.text a h;
    known = known_next way;
  }
