-- An instruction leaves a word that it misses.
use Rattle.std.proofs.Common.{◌≡◌, ℕ, ◌+◌, ◌<◌, ◌≤◌, ◌%◌, ◌^◌, Bool, refl, sym, subst, arith}
use Rattle.std.specs.Prelude.{◌==◌, ◌||◌, not, min, ℤ}
use Rattle.std.proofs.lemmas.Bool.{cond_both}
use Rattle.scale_base.specs.declared.instruction.LoadOp.{LoadOp}
use Rattle.scale_base.specs.declared.instruction.StoreOp.{StoreOp}
use Rattle.scale_base.specs.declared.instruction.Instr.{Instr}
use Rattle.scale_base.specs.declared.instruction.Instr.TheVariants.{Lui, Auipc, Jal, Jalr, Branch, Load, Store, Imm, Reg, Fence, Ecall, Ebreak}
use Rattle.scale_base.specs.Layout.{can_read, uses_window}
use Rattle.scale_base.specs.Arith.{load_width, store_width, is_taken, moved_by, plus, unsigned}
use Rattle.scale_base.specs.State.{Setting, State, reg, word_at}
use Rattle.scale_base.specs.Service.{served}
use Rattle.scale_base.specs.Step.{Outcome, jumps, branches, loads, stores, calls_service, performs}
use Rattle.stack_laws.specs.Stacks.{IsApart}
use Rattle.tidy_runs.proofs.Stores.{AreOut, word_same, apart_out, stores_keep, served_keeps}

module _ (env : Setting) (s : State) (at : ℕ) where
  abbrev Leaves : Outcome → Type 0
  Leaves o = word_at o.state.bytes at ≡ word_at s.bytes at

  jump_leaves : (i : Instr) (rd target : ℕ) → Leaves (jumps env s i rd target)
  jump_leaves i rd target = cond_both (target % 4 == 0) _ _ Leaves (λ _. refl) (λ _. refl)

  branch_leaves : (i : Instr) (taken : Bool) (target : ℕ) → Leaves (branches env s i taken target)
  branch_leaves i taken target = cond_both taken _ _ Leaves (λ _. cond_both (target % 4 == 0) _ _ Leaves (λ _. refl) (λ _. refl)) (λ _. refl)

  load_leaves : (i : Instr) (op : LoadOp) (rd from : ℕ) → Leaves (loads env s i op rd from)
  load_leaves i op rd from =
      cond_both (not (from % load_width op == 0)) _ _ Leaves (λ _. refl)
      (λ _. cond_both (uses_window env.layout s.pc from (load_width op)) _ _ Leaves (λ _. refl)
      (λ _. cond_both (can_read env.layout s.pc from (load_width op)) _ _ Leaves (λ _. refl) (λ _. refl)))

  -- a service, by what is so where it reads
  calls_leave : (i : Instr) → (reg s.regs 17 ≡ 63 → (n : ℕ) → n ≤ 256 → n ≤ reg s.regs 12 → reg s.regs 11 + n ≤ 2 ^ 32 → AreOut (reg s.regs 11) n at 4) → Leaves (calls_service env s i)
  calls_leave i reads =
      cond_both ((reg s.regs 17 == 93) || (reg s.regs 17 == 94)) _ _ Leaves (λ _. refl)
      (λ _. word_same (served env s).bytes s.bytes at (served_keeps env s at 4 reads))

  -- none but a store or a service writes
  pub other_leaves : (i j : Instr) → ((op : StoreOp) (rs1 rs2 : ℕ) (offset : ℤ) → j ≡ Store op rs1 rs2 offset → ⊥) → (j ≡ Ecall → ⊥) → Leaves (performs env s i j)
  other_leaves i (Lui rd imm) f g = refl
  other_leaves i (Auipc rd imm) f g = refl
  other_leaves i (Jal rd offset) f g = jump_leaves i rd _
  other_leaves i (Jalr rd rs1 offset) f g = jump_leaves i rd _
  other_leaves i (Branch op rs1 rs2 offset) f g = branch_leaves i (is_taken op (reg s.regs rs1) (reg s.regs rs2)) (moved_by s.pc offset)
  other_leaves i (Load op rd rs1 offset) f g = load_leaves i op rd _
  other_leaves i (Store op rs1 rs2 offset) f g = absurd (f op rs1 rs2 offset refl)
  other_leaves i (Imm op rd rs1 imm) f g = refl
  other_leaves i (Reg op rd rs1 rs2) f g = refl
  other_leaves i (Fence rd rs1 imm) f g = refl
  other_leaves i Ecall f g = absurd (g refl)
  other_leaves i Ebreak f g = refl

  pub no_read_leaves : (i : Instr) → (reg s.regs 17 ≡ 63 → ⊥) → Leaves (performs env s i Ecall)
  no_read_leaves i none = calls_leave i (λ is n few asked fits. absurd (none is))

  plus_small : (a b : ℕ) → plus a b < 2 ^ 32
  plus_small a b = omega arith

  pub store_leaves : (i : Instr) (op : StoreOp) (rs1 rs2 : ℕ) (offset : ℤ) (from width : ℕ) → at < 2 ^ 32 → from ≡ moved_by (reg s.regs rs1) offset → width ≡ store_width op → IsApart from width at → Leaves (performs env s i (Store op rs1 rs2 offset))
  store_leaves i op rs1 rs2 offset from width low there size apart =
      let small : moved_by (reg s.regs rs1) offset < 2 ^ 32 = plus_small (reg s.regs rs1) (unsigned offset) in
      let apart_so : IsApart (moved_by (reg s.regs rs1) offset) (store_width op) at = subst (λ x. IsApart x (store_width op) at) there (subst (λ n. IsApart from n at) size apart) in
      word_same (stores env s i op (moved_by (reg s.regs rs1) offset) (reg s.regs rs2)).state.bytes s.bytes at (stores_keep env s at 4 i op (moved_by (reg s.regs rs1) offset) (reg s.regs rs2) small (λ fits. apart_out (moved_by (reg s.regs rs1) offset) (store_width op) at small low fits apart_so))

  fewer_apart : (from n m : ℕ) → n ≤ m → IsApart from m at → IsApart from n at
  fewer_apart from n m le apart = (let h = apart.0 in omega (arith, le, h), apart.1)

  pub read_leaves : (i : Instr) (from asked count : ℕ) → at < 2 ^ 32 → from < 2 ^ 32 → from ≡ reg s.regs 11 → asked ≡ reg s.regs 12 → count ≡ min asked 256 → IsApart from count at → Leaves (performs env s i Ecall)
  read_leaves i from asked count low from_low there asks is apart =
      let small : reg s.regs 11 < 2 ^ 32 = subst (λ x. x < 2 ^ 32) there from_low in
      let apart_so : IsApart (reg s.regs 11) count at = subst (λ x. IsApart x count at) there apart in
      calls_leave i (λ _ n few within fits. apart_out (reg s.regs 11) n at small low fits (fewer_apart (reg s.regs 11) n count (few_of n few within) apart_so))
    where
      few_of : (n : ℕ) → n ≤ 256 → n ≤ reg s.regs 12 → n ≤ count
      few_of n few within = let so : n ≤ asked = subst (λ x. n ≤ x) (sym asks) within in omega (arith, few, so, is)
