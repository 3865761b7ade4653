-- What a step leaves in a register that is known to have a word of a table.
use Rattle.std.proofs.Common.{◌≡◌, ℕ, ◌+◌, ◌*◌, ◌<◌, ◌%◌, true, false, List, length, sym, ap, ◌∙◌, subst, arith, Option, Some, None, get_or-set_same}
use Rattle.std.specs.Prelude.{ℤ, ◌==◌, ◌&&◌, not, nat_le}
use Rattle.std.proofs.lemmas.Bool.{both_ways, cond_both, cond-false, ne_eqb}
use Rattle.scale_base.specs.declared.instruction.LoadOp.TheVariants.{Lw}
use Rattle.scale_base.specs.declared.instruction.RegOp.TheVariants.{Add}
use Rattle.scale_base.specs.declared.instruction.Instr.{Instr}
use Rattle.scale_base.specs.declared.instruction.Instr.TheVariants.{Load, Reg}
use Rattle.scale_base.specs.declared.stepping.Stepped.{Stepped}
use Rattle.scale_base.specs.declared.stepping.StepEnd.TheVariants.{Went}
use Rattle.scale_base.specs.Image.{WINDOW_START}
use Rattle.scale_base.specs.Reading.{instr_of}
use Rattle.scale_base.specs.Layout.{can_read, in_option, is_keyed, uses_window}
use Rattle.scale_base.specs.Arith.{plus, moved_by, unsigned}
use Rattle.scale_base.specs.State.{Setting, State, reg, with_reg, word_at}
use Rattle.scale_base.specs.Step.{Outcome, loads, performs, step}
use Rattle.bound_laws.specs.Values.{Arc, AreBytes, IsHeld, IsIn, IsRegister, Values, held, sum_with}
use Rattle.bound_laws.proofs.Laws.{held_of, in_covers, only_one, steps_leave, step_of, sum_with_in}
use Rattle.stack_laws.specs.Stacks.{IsExactly}
use Rattle.jump_laws.specs.declared.reads.TableRead.{TableRead}
use Rattle.jump_laws.specs.Reads.{addresses_in, IsEntryOf, IsRead, IsReadOver, read_to}
use Rattle.jump_laws.specs.Reads.IsReadOver.{kept, loaded, added, added_to}
use Rattle.jump_laws.proofs.Words.{plain_entry, raised_entry, raised_entry_to, word_number}

-- what is put into a register
put : (regs : List ℕ) (rd value : ℕ) → IsRegister rd → length regs ≡ 32 → reg (with_reg regs rd value) rd ≡ value
put regs rd value is size = ap (λ xs. reg xs rd) (cond-false _ _ _ (ne_eqb rd 0 high)) ∙ get_or-set_same regs rd value 0 (let lt : rd < 32 = is.1 in omega arith)
  where
    high : rd ≡ 0 → ⊥
    high e = let lt : 0 < rd = is.0 in let bad : ⊥ = omega arith in bad

module _ (env : Setting) (keyless : env.layout.keyed ≡ None) (s : State) (i : Instr) where
  no_window : (to width : ℕ) → uses_window env.layout s.pc to width ≡ true → ⊥
  no_window to width h =
      let e : is_keyed env.layout s.pc ≡ false = ap (in_option s.pc) keyless in
      let z : uses_window env.layout s.pc to width ≡ false = ap (λ b. b && (width == 4) && nat_le WINDOW_START to) e in
      both_ways (uses_window env.layout s.pc to width) z h

  -- a word that is loaded
  loads_get : (rd at : ℕ) (x : Stepped) → IsRegister rd → length s.regs ≡ 32 → (loads env s i Lw rd at).end ≡ Went x → reg (loads env s i Lw rd at).state.regs rd ≡ word_at s.bytes at
  loads_get rd at x is size =
      let P : Outcome → Type 0 = λ o. o.end ≡ Went x → reg o.state.regs rd ≡ word_at s.bytes at in
      cond_both (not (at % 4 == 0)) _ _ P (λ _ h. let bad : ⊥ = cc in absurd bad)
      (λ _. cond_both (uses_window env.layout s.pc at 4) _ _ P (λ u h. absurd (no_window at 4 u))
      (λ _. cond_both (can_read env.layout s.pc at 4) _ _ P (λ _ h. put s.regs rd (word_at s.bytes at) is size) (λ _ h. let bad : ⊥ = cc in absurd bad)))

module _ (env : Setting) (keyless : env.layout.keyed ≡ None) (s : State) (v : Values) (zero_is : reg s.regs 0 ≡ 0) (size : length s.regs ≡ 32) (are : (r : ℕ) → IsRegister r → IsHeld (v.at s.pc r) (reg s.regs r))
    (i : Instr) (here : instr_of (word_at s.bytes s.pc) ≡ Some i) (x : Stepped) (went : (step env s).end ≡ Went x) where
  abbrev after : State
  after = (step env s).state

  held_at : (r : ℕ) → IsHeld (held (v.at s.pc) r) (reg s.regs r)
  held_at r = held_of (v.at s.pc) s.regs zero_is size are r

  gets : (rd rs1 : ℕ) (offset : ℤ) → IsRegister rd → i ≡ Load Lw rd rs1 offset → reg after.regs rd ≡ word_at s.bytes (plus (reg s.regs rs1) (unsigned offset))
  gets rd rs1 offset is e = step_of (λ o. o.end ≡ Went x → reg o.state.regs rd ≡ word_at s.bytes (moved_by (reg s.regs rs1) offset)) env s i here
      (λ end. subst (λ (j : Instr). (performs env s i j).end ≡ Went x → reg (performs env s i j).state.regs rd ≡ word_at s.bytes (moved_by (reg s.regs rs1) offset)) (sym e)
      (loads_get env keyless s i rd (moved_by (reg s.regs rs1) offset) x is size) end) (λ end. let bad : ⊥ = cc in absurd bad) went

  totals : (rd rs1 rs2 : ℕ) → IsRegister rd → i ≡ Reg Add rd rs1 rs2 → reg after.regs rd ≡ plus (reg s.regs rs1) (reg s.regs rs2)
  totals rd rs1 rs2 is e = step_of (λ o. o.end ≡ Went x → reg o.state.regs rd ≡ plus (reg s.regs rs1) (reg s.regs rs2)) env s i here
      (λ end. subst (λ (j : Instr). reg (performs env s i j).state.regs rd ≡ plus (reg s.regs rs1) (reg s.regs rs2)) (sym e) (put s.regs rd (plus (reg s.regs rs1) (reg s.regs rs2)) is size)) (λ end. let bad : ⊥ = cc in absurd bad) went

  exact : (r : ℕ) (c : Arc) → IsExactly v s.pc r c → reg s.regs r ≡ c.low
  exact r c is = only_one c (reg s.regs r) (subst (λ (o : Option Arc). IsHeld o (reg s.regs r)) is.0 (held_at r)) is.1

  module _ (bytes : ℕ → ℕ) (small : AreBytes bytes) (known : ℕ → Option TableRead) (now : IsRead bytes (known s.pc) s.regs) where
    known_as : (y : TableRead) → known s.pc ≡ Some y → IsEntryOf bytes y.table (reg s.regs y.register)
    known_as y e = subst (λ (o : Option TableRead). IsRead bytes o s.regs) e now

    -- what is known where the step leads is so
    pub reads_on : (y : TableRead) → IsRegister y.register → ((k : ℕ) → k < y.table.count → word_at s.bytes (y.table.at + y.table.step * k) ≡ word_at bytes (y.table.at + y.table.step * k)) →
        IsReadOver v known i s.pc y → IsEntryOf bytes y.table (reg after.regs y.register)
    reads_on y is words (kept e keeps_it) = let p = known_as y e in (p.0, p.1, steps_leave env s i y.register here keeps_it ∙ p.2)
    reads_on y is words (loaded rs1 offset e plain covers) =
        let a : ℕ = plus (reg s.regs rs1) (unsigned offset) in
        let inside : IsIn (addresses_in y.table) a = in_covers (sum_with (held (v.at s.pc) rs1) (unsigned offset)) (Some (addresses_in y.table)) a (sum_with_in (held (v.at s.pc) rs1) (unsigned offset) (reg s.regs rs1) (held_at rs1)) covers in
        let w = word_number y.table a plain inside in
        (w.0, w.1, gets y.register rs1 offset is e ∙ (ap (word_at s.bytes) w.2 ∙ (words w.0 w.1 ∙ sym (plain_entry bytes y.table w.0 small plain))))
    reads_on y is words (added rs1 rs2 c table e one other same) =
        raised_entry bytes table y.table (reg s.regs rs1) c.low (reg after.regs y.register) (known_as (read_to rs1 table) one) same
        (totals y.register rs1 rs2 is e ∙ ap (plus (reg s.regs rs1)) (exact rs2 c other))
    reads_on y is words (added_to rs1 rs2 c table e one other same) =
        raised_entry_to bytes table y.table (reg s.regs rs2) c.low (reg after.regs y.register) (known_as (read_to rs2 table) one) same
        (totals y.register rs1 rs2 is e ∙ ap (λ (n : ℕ). plus n (reg s.regs rs2)) (exact rs1 c other))
