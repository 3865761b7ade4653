-- What a step does to one register.
use Rattle.std.proofs.Common.{◌≡◌, ℕ, ◌+◌, ◌*◌, ◌<◌, ◌%◌, ◌^◌, ◌⊎◌, ⊎_elim, Bool, true, false, List, length, refl, sym, ap, ◌∙◌, subst, arith, Some, None, get_or-set_other, get_or-set_same}
use Rattle.std.specs.Prelude.{ℤ, ◌==◌, ◌||◌, ◌&&◌, not, if◌then◌else◌, nat_lt, slice_set}
use Rattle.std.proofs.lemmas.Bool.{and_parts, and_cases, or_cases, or_parts, both_ways, cond_both, cond-true, cond-false, eqb-false, eqb-true, not-true}
use Rattle.scale_base.specs.declared.instruction.LoadOp.{LoadOp}
use Rattle.scale_base.specs.declared.instruction.StoreOp.{StoreOp}
use Rattle.scale_base.specs.declared.instruction.ImmOp.TheVariants.{Addi, Slti, Sltiu, Xori, Ori, Andi, Slli, Srli, Srai}
use Rattle.scale_base.specs.declared.instruction.Instr.{Instr}
use Rattle.scale_base.specs.declared.instruction.Instr.TheVariants.{Lui, Auipc, Jal, Jalr, Branch, Load, Store, Imm, Reg, Fence, Ecall, Ebreak}
use Rattle.scale_base.specs.declared.stepping.StepEnd.TheVariants.{Went}
use Rattle.scale_base.specs.Reading.{instr_of}
use Rattle.scale_base.specs.Layout.{can_fetch, can_read, can_write, uses_window, may_write, reads_byte}
use Rattle.scale_base.specs.Arith.{load_width, store_width, is_taken, moved_by, unsigned, plus, imm_result}
use Rattle.scale_base.specs.State.{Setting, State, reg, with_reg, word_at}
use Rattle.scale_base.specs.Service.{served, serves, read_count, write_count}
use Rattle.scale_base.specs.Step.{Outcome, jumps, branches, loads, stores, performs, executes, stops, window_index, port_index, step}
use Rattle.scale_base.specs.declared.stepping.TrapKind.TheVariants as traps
use Rattle.std.proofs.lemmas.Nat.{mod_below}
use Rattle.bound_laws.proofs.Moduli.{measure_adds, first_adds, nothing_more}
use Rattle.bound_laws.specs.Registers.{Measure, measured, keeps, added, effect}
use Rattle.bound_laws.specs.Laws.{StepsLeaveRegisters, StepsAddEffects}

module _ (r : ℕ) where
  -- the state that it leads to has the same in the register
  abbrev Leaves : State → Outcome → Type 0
  Leaves s o = reg o.state.regs r ≡ reg s.regs r

  other : (regs : List ℕ) (rd value : ℕ) → ((r == 0) || not (rd == r)) ≡ true → reg (with_reg regs rd value) r ≡ reg regs r
  other regs rd value h =
      cond_both (rd == 0) regs (slice_set regs rd value) (λ xs. reg xs r ≡ reg regs r) (λ _. refl)
      (λ z. get_or-set_other regs rd r value 0 (λ same. apart z same (or_cases (r == 0) (not (rd == r)) h)))
    where
      apart : (rd == 0) ≡ false → r ≡ rd → ((r == 0) ≡ true) ⊎ (not (rd == r) ≡ true) → ⊥
      apart z same h = ⊎_elim (λ (e : (r == 0) ≡ true). eqb-false rd 0 z (sym same ∙ eqb-true r 0 e))
          (λ (e : not (rd == r) ≡ true). eqb-false rd r (not-true (rd == r) e) (sym same)) h

  jumps_leave : (env : Setting) (s : State) (i : Instr) (rd target : ℕ) → ((r == 0) || not (rd == r)) ≡ true → Leaves s (jumps env s i rd target)
  jumps_leave env s i rd target h = cond_both (target % 4 == 0) _ _ (Leaves s) (λ _. other s.regs rd _ h) (λ _. refl)

  branches_leave : (env : Setting) (s : State) (i : Instr) (taken : Bool) (target : ℕ) → Leaves s (branches env s i taken target)
  branches_leave env s i taken target = cond_both taken _ _ (Leaves s) (λ _. cond_both (target % 4 == 0) _ _ (Leaves s) (λ _. refl) (λ _. refl)) (λ _. refl)

  loads_leave : (env : Setting) (s : State) (i : Instr) (op : LoadOp) (rd at : ℕ) → ((r == 0) || not (rd == r)) ≡ true → Leaves s (loads env s i op rd at)
  loads_leave env s i op rd at h =
      cond_both (not (at % load_width op == 0)) _ _ (Leaves s) (λ _. refl)
      (λ _. cond_both (uses_window env.layout s.pc at (load_width op)) _ _ (Leaves s) (λ _. other s.regs rd _ h)
      (λ _. cond_both (can_read env.layout s.pc at (load_width op)) _ _ (Leaves s) (λ _. other s.regs rd _ h) (λ _. refl)))

  stores_leave : (env : Setting) (s : State) (i : Instr) (op : StoreOp) (at value : ℕ) → Leaves s (stores env s i op at value)
  stores_leave env s i op at value =
      cond_both (not (at % store_width op == 0)) _ _ (Leaves s) (λ _. refl)
      (λ _. cond_both (uses_window env.layout s.pc at (store_width op)) _ _ (Leaves s)
      (λ _. cond_both (not (window_index at == port_index)) _ _ (Leaves s) (λ _. refl)
      (λ _. cond_both (nat_lt value env.levels) _ _ (Leaves s) (λ _. refl) (λ _. refl)))
      (λ _. cond_both (can_write env.layout at (store_width op)) _ _ (Leaves s) (λ _. refl) (λ _. refl)))

  served_leaves : (env : Setting) (s : State) → ((r == 0) || not (10 == r)) ≡ true → reg (served env s).regs r ≡ reg s.regs r
  unfolding served
  served_leaves env s h =
      let P : State → Type 0 = λ t. reg t.regs r ≡ reg s.regs r in
      cond_both (reg s.regs 17 == 63) _ _ P
      (λ _. cond_both (not (reg s.regs 10 == 0)) _ _ P (λ _. other s.regs 10 _ h)
      (λ _. cond_both (not (serves (may_write env.layout) (reg s.regs 11) (read_count env s))) _ _ P (λ _. other s.regs 10 _ h) (λ _. other s.regs 10 _ h)))
      (λ _. cond_both (reg s.regs 17 == 64) _ _ P
      (λ _. cond_both (not (reg s.regs 10 == 1)) _ _ P (λ _. other s.regs 10 _ h)
      (λ _. cond_both (not (serves (reads_byte env.layout s.pc) (reg s.regs 11) (write_count s))) _ _ P (λ _. other s.regs 10 _ h) (λ _. other s.regs 10 _ h)))
      (λ _. other s.regs 10 _ h))

  pub performs_leave : (env : Setting) (s : State) (i j : Instr) → keeps r j ≡ true → Leaves s (performs env s i j)
  performs_leave env s i (Lui rd imm) h = other s.regs rd _ h
  performs_leave env s i (Auipc rd imm) h = other s.regs rd _ h
  performs_leave env s i (Jal rd offset) h = jumps_leave env s i rd _ h
  performs_leave env s i (Jalr rd rs1 offset) h = jumps_leave env s i rd _ h
  performs_leave env s i (Branch op rs1 rs2 offset) h = branches_leave env s i (is_taken op (reg s.regs rs1) (reg s.regs rs2)) (moved_by s.pc offset)
  performs_leave env s i (Load op rd rs1 offset) h = loads_leave env s i op rd _ h
  performs_leave env s i (Store op rs1 rs2 offset) h = stores_leave env s i op _ _
  performs_leave env s i (Imm op rd rs1 imm) h = other s.regs rd _ h
  performs_leave env s i (Reg op rd rs1 rs2) h = other s.regs rd _ h
  performs_leave env s i (Fence rd rs1 imm) h = refl
  performs_leave env s i Ecall h = cond_both ((reg s.regs 17 == 93) || (reg s.regs 17 == 94)) _ _ (Leaves s) (λ _. refl) (λ _. served_leaves env s h)
  performs_leave env s i Ebreak h = refl

pub step_of : (P : Outcome → Type 0) (env : Setting) (s : State) (i : Instr) → instr_of (word_at s.bytes s.pc) ≡ Some i → P (performs env s i i) → P (stops s traps.FetchFault s.pc) → P (step env s)
unfolding step
step_of P env s i at done stopped = cond_both (can_fetch env.layout s.pc) _ _ P (λ _. subst (λ o. P (executes env s o)) (sym at) done) (λ _. stopped)

pub steps_leave : StepsLeaveRegisters
steps_leave env s i r at h = step_of (λ o. reg o.state.regs r ≡ reg s.regs r) env s i at (performs_leave r env s i i h) refl

-- a register after an `addi` of itself
module _ (env : Setting) (s : State) (r : ℕ) (within : r < length s.regs) where
  written : (value : ℕ) → (r == 0) ≡ false → reg (with_reg s.regs r value) r ≡ value
  written value ne = ap (λ xs. reg xs r) (cond-false _ _ _ ne) ∙ get_or-set_same s.regs r value 0 within

  abbrev Moves : ℕ → ℕ → Outcome → Type 0
  Moves factor e o = (u : ℕ) × (reg o.state.regs r ≡ plus (reg s.regs r) u) × (e ≡ factor * u % 2 ^ 32)

  advanced : (i : Instr) (rd rs1 : ℕ) (imm : ℤ) → (r == 0) ≡ false → rd ≡ r → rs1 ≡ r → reg (performs env s i (Imm Addi rd rs1 imm)).state.regs r ≡ plus (reg s.regs r) (unsigned imm)
  advanced i rd rs1 imm ne same from =
      ap (λ q. reg (with_reg s.regs q (imm_result Addi (reg s.regs rs1) imm)) r) same
      ∙ (written (imm_result Addi (reg s.regs rs1) imm) ne ∙ ap (λ q. plus (reg s.regs q) (unsigned imm)) from)

  by_added : (i j : Instr) (factor e : ℕ) → keeps r j ≡ false → added r factor j ≡ Some e → Moves factor e (performs env s i j)
  by_added i (Imm Addi rd rs1 imm) factor e kept is = go ((rd == r) && (rs1 == r)) refl
    where
      go : (b : Bool) → ((rd == r) && (rs1 == r)) ≡ b → Moves factor e (performs env s i (Imm Addi rd rs1 imm))
      go true t =
          let q : Some (factor * unsigned imm % 2 ^ 32) ≡ Some e = sym (cond-true _ _ _ t) ∙ is in
          let q1 : factor * unsigned imm % 2 ^ 32 ≡ e = cc in
          let p = and_parts (rd == r) (rs1 == r) t in
          (unsigned imm, advanced i rd rs1 imm (or_parts (r == 0) (not (rd == r)) kept).0 (eqb-true rd r p.0) (eqb-true rs1 r p.1), sym q1)
      go false t = let q : None ≡ Some e = sym (cond-false _ _ _ t) ∙ is in let bad : ⊥ = cc in absurd bad
  by_added i (Imm Slti rd rs1 imm) factor e kept is = let bad : ⊥ = cc in absurd bad
  by_added i (Imm Sltiu rd rs1 imm) factor e kept is = let bad : ⊥ = cc in absurd bad
  by_added i (Imm Xori rd rs1 imm) factor e kept is = let bad : ⊥ = cc in absurd bad
  by_added i (Imm Ori rd rs1 imm) factor e kept is = let bad : ⊥ = cc in absurd bad
  by_added i (Imm Andi rd rs1 imm) factor e kept is = let bad : ⊥ = cc in absurd bad
  by_added i (Imm Slli rd rs1 imm) factor e kept is = let bad : ⊥ = cc in absurd bad
  by_added i (Imm Srli rd rs1 imm) factor e kept is = let bad : ⊥ = cc in absurd bad
  by_added i (Imm Srai rd rs1 imm) factor e kept is = let bad : ⊥ = cc in absurd bad
  by_added i (Lui rd imm) factor e kept is = let bad : ⊥ = cc in absurd bad
  by_added i (Auipc rd imm) factor e kept is = let bad : ⊥ = cc in absurd bad
  by_added i (Jal rd offset) factor e kept is = let bad : ⊥ = cc in absurd bad
  by_added i (Jalr rd rs1 offset) factor e kept is = let bad : ⊥ = cc in absurd bad
  by_added i (Branch op rs1 rs2 offset) factor e kept is = let bad : ⊥ = cc in absurd bad
  by_added i (Load op rd rs1 offset) factor e kept is = let bad : ⊥ = cc in absurd bad
  by_added i (Store op rs1 rs2 offset) factor e kept is = let bad : ⊥ = cc in absurd bad
  by_added i (Reg op rd rs1 rs2) factor e kept is = let bad : ⊥ = cc in absurd bad
  by_added i (Fence rd rs1 imm) factor e kept is = let bad : ⊥ = cc in absurd bad
  by_added i Ecall factor e kept is = let bad : ⊥ = cc in absurd bad
  by_added i Ebreak factor e kept is = let bad : ⊥ = cc in absurd bad

-- a measure after a step
module _ (env : Setting) (s : State) (m : Measure) (small : m.register < length s.regs) (other_small : m.other < length s.regs) where
  abbrev Adds : ℕ → Outcome → Type 0
  Adds e o = measured m o.state.regs ≡ (measured m s.regs + e) % 2 ^ 32

  by_effect : (i j : Instr) (e : ℕ) → effect m j ≡ Some e → Adds e (performs env s i j)
  by_effect i j e is = by_both (keeps m.register j && keeps m.other j) refl
    where
      a : ℕ
      a = reg s.regs m.register

      b : ℕ
      b = reg s.regs m.other

      o : Outcome
      o = performs env s i j

      by_register : keeps m.register j ≡ false → keeps m.other j ≡ true → added m.register m.factor j ≡ Some e → Adds e o
      by_register k l h =
          let p : Moves env s m.register small m.factor e o = by_added env s m.register small i j m.factor e k h in
          let q : reg o.state.regs m.other ≡ b = performs_leave m.other env s i j l in
          ap (λ x. (m.shift + m.factor * x + m.other_factor * reg o.state.regs m.other) % 2 ^ 32) p.1
          ∙ (ap (λ y. (m.shift + m.factor * plus a p.0 + m.other_factor * y) % 2 ^ 32) q
          ∙ (first_adds (2 ^ 32) m.shift m.factor (m.other_factor * b) a p.0 ∙ ap (λ z. (measured m s.regs + z) % 2 ^ 32) (sym p.2)))

      by_other : keeps m.other j ≡ false → keeps m.register j ≡ true → added m.other m.other_factor j ≡ Some e → Adds e o
      by_other k l h =
          let p : Moves env s m.other other_small m.other_factor e o = by_added env s m.other other_small i j m.other_factor e k h in
          let q : reg o.state.regs m.register ≡ a = performs_leave m.register env s i j l in
          ap (λ y. (m.shift + m.factor * reg o.state.regs m.register + m.other_factor * y) % 2 ^ 32) p.1
          ∙ (ap (λ x. (m.shift + m.factor * x + m.other_factor * plus b p.0) % 2 ^ 32) q
          ∙ (measure_adds (2 ^ 32) (m.shift + m.factor * a) m.other_factor b p.0 ∙ ap (λ z. (measured m s.regs + z) % 2 ^ 32) (sym p.2)))

      by_kept : (keeps m.register j && keeps m.other j) ≡ false → (if keeps m.other j then added m.register m.factor j else if keeps m.register j then added m.other m.other_factor j else None) ≡ Some e → Adds e o
      by_kept n h = go (keeps m.other j) refl
        where
          third : keeps m.other j ≡ false → (x : Bool) → keeps m.register j ≡ x → (if keeps m.register j then added m.other m.other_factor j else None) ≡ Some e → Adds e o
          third k true l h = by_other k l (sym (cond-true _ _ _ l) ∙ h)
          third k false l h = let q : None ≡ Some e = sym (cond-false _ _ _ l) ∙ h in let bad : ⊥ = cc in absurd bad

          go : (x : Bool) → keeps m.other j ≡ x → Adds e o
          go true k =
              let l : keeps m.register j ≡ false = ⊎_elim (λ (z : keeps m.register j ≡ false). z) (λ (z : keeps m.other j ≡ false). absurd (both_ways (keeps m.other j) z k)) (and_cases (keeps m.register j) (keeps m.other j) n) in
              by_register l k (sym (cond-true _ _ _ k) ∙ h)
          go false k = third k (keeps m.register j) refl (sym (cond-false _ _ _ k) ∙ h)

      by_both : (x : Bool) → (keeps m.register j && keeps m.other j) ≡ x → Adds e o
      by_both true k =
          let q : Some 0 ≡ Some e = sym (cond-true _ _ _ k) ∙ is in
          let q1 : 0 ≡ e = cc in
          let p = and_parts (keeps m.register j) (keeps m.other j) k in
          let ra : reg o.state.regs m.register ≡ a = performs_leave m.register env s i j p.0 in
          let rb : reg o.state.regs m.other ≡ b = performs_leave m.other env s i j p.1 in
          let low : measured m s.regs < 2 ^ 32 = mod_below (m.shift + m.factor * a + m.other_factor * b) (2 ^ 32) (omega arith) in
          ap (λ x. (m.shift + m.factor * x + m.other_factor * reg o.state.regs m.other) % 2 ^ 32) ra
          ∙ (ap (λ y. (m.shift + m.factor * a + m.other_factor * y) % 2 ^ 32) rb
          ∙ (sym (nothing_more (measured m s.regs) low) ∙ ap (λ z. (measured m s.regs + z) % 2 ^ 32) q1))
      by_both false k = by_kept k (sym (cond-false _ _ _ k) ∙ is)

pub steps_add : StepsAddEffects
steps_add env s x i m e at went small other_small is =
    step_of (λ o. o.end ≡ Went x → Adds env s m small other_small e o) env s i at
    (λ _. by_effect env s m small other_small i i e is)
    (λ bad. let no : ⊥ = cc in absurd no) went
