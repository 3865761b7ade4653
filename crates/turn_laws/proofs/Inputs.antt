-- What is left of the input behind a step, and what a read answers.
use Rattle.std.proofs.Common.{◌≡◌, ℕ, ◌+◌, ◌-◌, ◌<◌, ◌≤◌, ◌%◌, ◌^◌, ◌⊎◌, inl, inr, Bool, List, length, ap, ◌∙◌, subst, sym, arith, get_or-set_same, Some}
use Rattle.std.specs.Prelude.{◌==◌, ◌||◌, not, nat_lt}
use Rattle.std.proofs.lemmas.Bool.{cond_both, cond-false, ne_eqb, eqb-false}
use Rattle.scale_base.specs.declared.instruction.LoadOp.{LoadOp}
use Rattle.scale_base.specs.declared.instruction.StoreOp.{StoreOp}
use Rattle.scale_base.specs.declared.instruction.Instr.{Instr}
use Rattle.scale_base.specs.declared.instruction.Instr.TheVariants.{Lui, Auipc, Jal, Jalr, Branch, Load, Store, Imm, Reg, Fence, Ecall, Ebreak}
use Rattle.scale_base.specs.declared.stepping.Stepped.{Stepped}
use Rattle.scale_base.specs.declared.stepping.StepEnd.TheVariants.{Went}
use Rattle.scale_base.specs.Arith.{is_taken, load_width, store_width, moved_by}
use Rattle.scale_base.specs.Layout.{can_read, can_write, may_write, reads_byte, uses_window}
use Rattle.scale_base.specs.Reading.{instr_of}
use Rattle.scale_base.specs.Service.{served, serves, read_count, write_count, bad_descriptor, bad_address}
use Rattle.scale_base.specs.State.{Setting, State, reg, with_reg, word_at}
use Rattle.scale_base.specs.Step.{Outcome, performs, step, jumps, branches, loads, stores, window_index, port_index}
use Rattle.bound_laws.specs.Values.{IsRegister}
use Rattle.bound_laws.proofs.Laws.{step_of}
use Rattle.turn_laws.specs.Relating.{IsError, read_number}

abbrev pub left : Setting → State → ℕ
left env s = length env.input - s.used

-- what is put into a register
pub put : (regs : List ℕ) (rd value : ℕ) → IsRegister rd → length regs ≡ 32 → reg (with_reg regs rd value) rd ≡ value
put regs rd value is size = ap (λ xs. reg xs rd) (cond-false _ _ _ (ne_eqb rd 0 high)) ∙ get_or-set_same regs rd value 0 (let lt : rd < 32 = is.1 in omega arith)
  where
    high : rd ≡ 0 → ⊥
    high e = let some : 0 < rd = is.0 in let bad : ⊥ = omega arith in bad

module _ (env : Setting) (s : State) where
  -- no more is left than before
  abbrev Falls : Outcome → Type 0
  Falls o = left env o.state ≤ left env s

  same : left env s ≤ left env s
  same = omega arith

  jumps_fall : (i : Instr) (rd target : ℕ) → Falls (jumps env s i rd target)
  jumps_fall i rd target = cond_both (target % 4 == 0) _ _ Falls (λ _. same) (λ _. same)

  branches_fall : (i : Instr) (taken : Bool) (target : ℕ) → Falls (branches env s i taken target)
  branches_fall i taken target = cond_both taken _ _ Falls (λ _. cond_both (target % 4 == 0) _ _ Falls (λ _. same) (λ _. same)) (λ _. same)

  loads_fall : (i : Instr) (op : LoadOp) (rd at : ℕ) → Falls (loads env s i op rd at)
  loads_fall i op rd at = cond_both (not (at % load_width op == 0)) _ _ Falls (λ _. same)
      (λ _. cond_both (uses_window env.layout s.pc at (load_width op)) _ _ Falls (λ _. same)
      (λ _. cond_both (can_read env.layout s.pc at (load_width op)) _ _ Falls (λ _. same) (λ _. same)))

  stores_fall : (i : Instr) (op : StoreOp) (at value : ℕ) → Falls (stores env s i op at value)
  stores_fall i op at value = cond_both (not (at % store_width op == 0)) _ _ Falls (λ _. same)
      (λ _. cond_both (uses_window env.layout s.pc at (store_width op)) _ _ Falls
      (λ _. cond_both (not (window_index at == port_index)) _ _ Falls (λ _. same)
      (λ _. cond_both (nat_lt value env.levels) _ _ Falls (λ _. same) (λ _. same)))
      (λ _. cond_both (can_write env.layout at (store_width op)) _ _ Falls (λ _. same) (λ _. same)))

  taken : (m : ℕ) → length env.input - (s.used + m) ≤ left env s
  taken m = omega arith

  served_falls : left env (served env s) ≤ left env s
  unfolding served
  served_falls =
      let P : State → Type 0 = λ t. left env t ≤ left env s in
      cond_both (reg s.regs 17 == 63) _ _ P
      (λ _. cond_both (not (reg s.regs 10 == 0)) _ _ P (λ _. same)
      (λ _. cond_both (not (serves (may_write env.layout) (reg s.regs 11) (read_count env s))) _ _ P (λ _. same) (λ _. taken (read_count env s))))
      (λ _. cond_both (reg s.regs 17 == 64) _ _ P
      (λ _. cond_both (not (reg s.regs 10 == 1)) _ _ P (λ _. same)
      (λ _. cond_both (not (serves (reads_byte env.layout s.pc) (reg s.regs 11) (write_count s))) _ _ P (λ _. same) (λ _. same)))
      (λ _. same))

  performs_fall : (i j : Instr) → Falls (performs env s i j)
  performs_fall i (Lui rd imm) = same
  performs_fall i (Auipc rd imm) = same
  performs_fall i (Jal rd offset) = jumps_fall i rd _
  performs_fall i (Jalr rd rs1 offset) = jumps_fall i rd _
  performs_fall i (Branch op rs1 rs2 offset) = branches_fall i (is_taken op (reg s.regs rs1) (reg s.regs rs2)) (moved_by s.pc offset)
  performs_fall i (Load op rd rs1 offset) = loads_fall i op rd _
  performs_fall i (Store op rs1 rs2 offset) = stores_fall i op _ _
  performs_fall i (Imm op rd rs1 imm) = same
  performs_fall i (Reg op rd rs1 rs2) = same
  performs_fall i (Fence rd rs1 imm) = same
  performs_fall i Ecall = cond_both ((reg s.regs 17 == 93) || (reg s.regs 17 == 94)) _ _ Falls (λ _. same) (λ _. served_falls)
  performs_fall i Ebreak = same

  pub step_falls : (i : Instr) → instr_of (word_at s.bytes s.pc) ≡ Some i → left env (step env s).state ≤ left env s
  step_falls i here = step_of Falls env s i here (performs_fall i i) same

  -- ---- reads

  -- x10 has an error number, or what is left is less by what x10 has
  abbrev pub Answers : State → Type 0
  Answers t = (left env t + reg t.regs 10 % 2 ^ 32 ≤ left env s) ⊎ IsError (reg t.regs 10)

  module _ (size : length s.regs ≡ 32) (reads : reg s.regs 17 ≡ read_number) where
    answer : (n : ℕ) → reg (with_reg s.regs 10 n) 10 ≡ n
    answer n = put s.regs 10 n (let a : 0 < 10 = omega arith in a, let b : 10 < 32 = omega arith in b) size

    fails : (n : ℕ) → 2 ^ 31 ≤ n % 2 ^ 32 → (left env s + reg (with_reg s.regs 10 n) 10 % 2 ^ 32 ≤ left env s) ⊎ IsError (reg (with_reg s.regs 10 n) 10)
    fails n h = inr (subst IsError (sym (answer n)) h)

    gives : (m : ℕ) → m ≤ 256 → m ≤ left env s → (length env.input - (s.used + m) + reg (with_reg s.regs 10 m) 10 % 2 ^ 32 ≤ left env s) ⊎ IsError (reg (with_reg s.regs 10 m) 10)
    gives m small le = inl (subst (λ n. length env.input - (s.used + m) + n % 2 ^ 32 ≤ left env s) (sym (answer m)) (go (length env.input) s.used m small le))
      where
        go : (n used m : ℕ) → m ≤ 256 → m ≤ n - used → n - (used + m) + m % 2 ^ 32 ≤ n - used
        go n used m small le = omega arith

    served_answers : Answers (served env s)
    unfolding served
    served_answers =
        cond_both (reg s.regs 17 == 63) _ _ Answers
        (λ _. cond_both (not (reg s.regs 10 == 0)) _ _ Answers (λ _. fails bad_descriptor (omega arith))
        (λ _. cond_both (not (serves (may_write env.layout) (reg s.regs 11) (read_count env s))) _ _ Answers (λ _. fails bad_address (omega arith))
        (λ _. gives (read_count env s) (omega arith) (omega arith))))
        (λ e. absurd (eqb-false (reg s.regs 17) 63 e reads))

    performs_answers : (i : Instr) (x : Stepped) → (performs env s i Ecall).end ≡ Went x → Answers (performs env s i Ecall).state
    performs_answers i x = cond_both ((reg s.regs 17 == 93) || (reg s.regs 17 == 94)) _ _ (λ (o : Outcome). o.end ≡ Went x → Answers o.state)
        (λ _ end. let bad : ⊥ = cc in absurd bad) (λ _ end. served_answers)

    pub read_answers : (x : Stepped) → instr_of (word_at s.bytes s.pc) ≡ Some Ecall → (step env s).end ≡ Went x → Answers (step env s).state
    read_answers x here went = step_of (λ o. o.end ≡ Went x → Answers o.state) env s Ecall here (performs_answers Ecall x) (λ end. let bad : ⊥ = cc in absurd bad) went
