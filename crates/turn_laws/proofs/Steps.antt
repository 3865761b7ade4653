-- What a step makes of relations, and what a call that comes back does.
use Rattle.std.proofs.Common.{◌≡◌, ℕ, ◌+◌, ◌*◌, ◌/◌, ◌<◌, ◌≤◌, ◌%◌, ◌^◌, ⊎_elim, ◌⊎◌, inl, inr, Bool, true, false, List, length, sym, ap, ◌∙◌, subst, arith, Option, Some, None}
use Rattle.std.specs.Prelude.{◌==◌, ◌&&◌, ◌||◌, not, nat_lt, is_some}
use Rattle.std.proofs.lemmas.Bool.{cond_both, and_parts, or_parts, ltb-true, lt-ltb, eqb-true, not-false}
use Rattle.std.proofs.Math.Nat.{div-le_self}
use Rattle.scale_base.specs.declared.instruction.ImmOp.TheVariants.{Addi, Slti, Sltiu, Xori, Ori, Andi, Slli, Srli, Srai}
use Rattle.scale_base.specs.declared.instruction.RegOp.TheVariants.{Add, Sub, Sll, Slt, Sltu, Xor, Srl, Sra, Or, And, Mul, Mulh, Mulhsu, Mulhu, Div, Divu, Rem, Remu}
use Rattle.scale_base.specs.declared.instruction.Instr.{Instr}
use Rattle.scale_base.specs.declared.instruction.Instr.TheVariants.{Lui, Auipc, Jal, Jalr, Branch, Load, Store, Imm, Reg, Fence, Ecall, Ebreak}
use Rattle.scale_base.specs.declared.stepping.Stepped.{Stepped}
use Rattle.scale_base.specs.declared.stepping.StepEnd.TheVariants.{Went}
use Rattle.scale_base.specs.Reading.{instr_of}
use Rattle.scale_base.specs.Arith.{plus, unsigned, reg_result, imm_result, is_taken}
use Rattle.scale_base.specs.State.{Setting, State, reg, with_reg, word_at}
use Rattle.scale_base.specs.Step.{Outcome, performs, step}
use Rattle.bound_laws.specs.Registers.{keeps}
use Rattle.bound_laws.specs.Values.{Arc, IsHeld, held, least_of, passed, Said, said, IsRegister, Values, AreBytes}
use Rattle.bound_laws.proofs.Laws.{IsSo, held_of, so_behind, step_of, steps_leave}
use Rattle.stack_laws.specs.Stacks.{Stacks, View, view_of, IsStoredFrom, IsMissed, AreTold}
use Rattle.stack_laws.specs.Tidy.{AreKept}
use Rattle.stack_laws.proofs.Laws.{gets, puts, misses}
use Rattle.turn_laws.specs.Relating.{Relation, IsRelated, IsWeaker, made, made_too, moved_by_number, moved_by_arc, moved_back, multiplied, divided, lowered, is_low, are_low, bits_off, are_ordered, first_related, second_related, Place, TurnCertificate, row_of, IsMadeOver, IsLoadedOwn, IsRelatedBy, IsRowOn, IsRowOver, IsWordOver, IsPlaceOn, IsEvident, IsError, IsReadInto, IsCounted, IsTakenOn, consumed_by, read_number}
use Rattle.turn_laws.specs.Relating.Relation.{unknown, read}
use Rattle.turn_laws.specs.Relating.Place.{in_register, in_word, in_input}
use Rattle.turn_laws.proofs.Inputs.{left, put, step_falls, Answers, read_answers}
use Rattle.turn_laws.proofs.Relations.{fewer_in, one_held, under_top, least_mod, weaker_in, same_in, number_in, arc_in, sum_both_in, back_in, product_in, divided_in, lowered_in, both_words, ordered_so, first_in, second_in, held_word, held_low, held_more, and_less, and_less_too, shifted_less, signed_shifted, product_less, product_less_too, quotient_less, remainder_less, off_least, both_low, signed_quotient_less, signed_remainder_less, signed_product_less, signed_product_less_too}
use Rattle.turn_laws.proofs.Facts.{Facts, IsPlaceRelated}

module _ (env : Setting) (keyless : env.layout.keyed ≡ None) (v : Values) (w : Stacks) (offsets : (k : ℕ) → w.offset k < 2 ^ 32) (s : State) (zero_is : reg s.regs 0 ≡ 0) (size : length s.regs ≡ 32) (begun : List ℕ)
    (told : AreTold v w s.pc (view_of w begun s.regs s.bytes)) (i : Instr) (here : instr_of (word_at s.bytes s.pc) ≡ Some i) (x : Stepped) (went : (step env s).end ≡ Went x)
    (own : w.doubtful s.pc ≡ true → AreKept w s.bytes (step env s).state.bytes (record { function = v.function s.pc; stack = reg begun 2 }))
    (c : TurnCertificate) (count : ℕ) (facts : Facts c (left env s) s.pc count (view_of w begun s.regs s.bytes)) where
  abbrev after : State
  after = (step env s).state

  abbrev start : ℕ
  start = facts.start

  abbrev seen : View
  seen = view_of w begun s.regs s.bytes

  abbrev then : View
  then = view_of w begun after.regs after.bytes

  -- what is left of the input behind the step, and is no more than before
  abbrev rest : ℕ
  rest = left env after

  falls : rest ≤ left env s
  falls = step_falls env s i here

  rows_now : (r : ℕ) → IsRegister r → IsRelated rest (c.row s.pc r) start (reg s.regs r)
  rows_now r is = fewer_in (left env s) rest (c.row s.pc r) start (reg s.regs r) falls (facts.rows r is)

  own_now : (k : ℕ) → c.place ≡ in_word k → IsRelated rest (c.own s.pc) start (seen.words k)
  own_now k same = fewer_in (left env s) rest (c.own s.pc) start (seen.words k) falls (facts.own k same)

  at_of : (r : ℕ) → IsHeld (held (v.at s.pc) r) (reg s.regs r)
  at_of r = held_of (v.at s.pc) s.regs zero_is size told.registers.each r

  related : (r : ℕ) → IsRelated rest (row_of c s.pc r) start (reg s.regs r)
  related r = cond_both (nat_lt 0 r && nat_lt r 32) (c.row s.pc r) unknown (λ p. IsRelated rest p start (reg s.regs r))
      (λ h. let p = and_parts (nat_lt 0 r) (nat_lt r 32) h in rows_now r (ltb-true 0 r p.0, ltb-true r 32 p.1)) (λ _. tt)

  -- what an instruction writes
  module _ (r : ℕ) (is : IsRegister r) where
    written : (rd value : ℕ) → ((r == 0) || not (rd == r)) ≡ false → reg (with_reg s.regs rd value) r ≡ value
    written rd value h =
        let p = or_parts (r == 0) (not (rd == r)) h in
        let e : rd ≡ r = eqb-true rd r (not-false (rd == r) p.1) in
        ap (λ q. reg (with_reg s.regs q value) r) e ∙ put s.regs r value is size

    abbrev Has : Relation → Outcome → Type 0
    Has p o = IsRelated rest p start (reg o.state.regs r)

    into : (p : Relation) (rd value : ℕ) → ((r == 0) || not (rd == r)) ≡ false → IsRelated rest p start value → IsRelated rest p start (reg (with_reg s.regs rd value) r)
    into p rd value h k = subst (λ n. IsRelated rest p start n) (sym (written rd value h)) k

    by : (j : Instr) → keeps r j ≡ false → Has (made j (row_of c s.pc) (v.at s.pc)) (performs env s i j)
    by (Imm Addi rd rs1 imm) h = into (moved_by_number (row_of c s.pc rs1) (held (v.at s.pc) rs1) (unsigned imm)) rd (imm_result Addi (reg s.regs rs1) imm) h
        (number_in rest (row_of c s.pc rs1) (held (v.at s.pc) rs1) (unsigned imm) start (reg s.regs rs1) (at_of rs1) (related rs1))
    by (Imm Andi rd rs1 imm) h = into (made (Imm Andi rd rs1 imm) (row_of c s.pc) (v.at s.pc)) rd (imm_result Andi (reg s.regs rs1) imm) h
        (lowered_in rest (row_of c s.pc rs1) 0 (is_some (held (v.at s.pc) rs1)) start (reg s.regs rs1) (imm_result Andi (reg s.regs rs1) imm)
        (λ e. and_less (reg s.regs rs1) (unsigned imm) (held_word (held (v.at s.pc) rs1) (reg s.regs rs1) e (at_of rs1))) (related rs1))
    by (Imm Srli rd rs1 imm) h = into (made (Imm Srli rd rs1 imm) (row_of c s.pc) (v.at s.pc)) rd (imm_result Srli (reg s.regs rs1) imm) h
        (divided_in rest (row_of c s.pc rs1) (unsigned imm % 32) (is_some (held (v.at s.pc) rs1)) start (reg s.regs rs1) (imm_result Srli (reg s.regs rs1) imm)
        (λ e. shifted_less (reg s.regs rs1) (unsigned imm % 32) (held_word (held (v.at s.pc) rs1) (reg s.regs rs1) e (at_of rs1))) (related rs1))
    by (Imm Srai rd rs1 imm) h = into (made (Imm Srai rd rs1 imm) (row_of c s.pc) (v.at s.pc)) rd (imm_result Srai (reg s.regs rs1) imm) h
        (divided_in rest (row_of c s.pc rs1) (unsigned imm % 32) (is_low (held (v.at s.pc) rs1)) start (reg s.regs rs1) (imm_result Srai (reg s.regs rs1) imm)
        (λ e. signed_shifted (reg s.regs rs1) (unsigned imm % 32) (held_low (held (v.at s.pc) rs1) (reg s.regs rs1) e (at_of rs1))) (related rs1))
    by (Imm Slti rd rs1 imm) h = tt
    by (Imm Sltiu rd rs1 imm) h = tt
    by (Imm Xori rd rs1 imm) h = tt
    by (Imm Ori rd rs1 imm) h = tt
    by (Imm Slli rd rs1 imm) h = into (multiplied (row_of c s.pc rs1) (held (v.at s.pc) rs1) (unsigned imm % 32)) rd (imm_result Slli (reg s.regs rs1) imm) h
        (product_in rest (row_of c s.pc rs1) (held (v.at s.pc) rs1) (unsigned imm % 32) start (reg s.regs rs1) (at_of rs1) (related rs1))
    by (Reg Add rd rs1 rs2) h = into (moved_by_arc (row_of c s.pc rs1) (held (v.at s.pc) rs1) (held (v.at s.pc) rs2)) rd (plus (reg s.regs rs1) (reg s.regs rs2)) h
        (arc_in rest (row_of c s.pc rs1) (held (v.at s.pc) rs1) (held (v.at s.pc) rs2) start (reg s.regs rs1) (reg s.regs rs2) (at_of rs1) (at_of rs2) (related rs1))
    by (Reg Sub rd rs1 rs2) h = into (moved_back (row_of c s.pc rs1) (held (v.at s.pc) rs1) (held (v.at s.pc) rs2)) rd (reg_result Sub (reg s.regs rs1) (reg s.regs rs2)) h
        (back_in rest (row_of c s.pc rs1) (held (v.at s.pc) rs1) (held (v.at s.pc) rs2) start (reg s.regs rs1) (reg s.regs rs2) (at_of rs1) (at_of rs2) (related rs1))
    by (Reg Mulhu rd rs1 rs2) h =
        let a : ℕ = reg s.regs rs1 in
        let b : ℕ = reg s.regs rs2 in
        let both : Bool = is_some (held (v.at s.pc) rs1) && is_some (held (v.at s.pc) rs2) in
        let words : both ≡ true → (a < 2 ^ 32) × (b < 2 ^ 32) = λ e. let p = and_parts (is_some (held (v.at s.pc) rs1)) (is_some (held (v.at s.pc) rs2)) e in
        (held_word (held (v.at s.pc) rs1) a p.0 (at_of rs1), held_word (held (v.at s.pc) rs2) b p.1 (at_of rs2)) in
        into (divided (row_of c s.pc rs1) 0 both) rd (a * b / 2 ^ 32) h
        (divided_in rest (row_of c s.pc rs1) 0 both start a (a * b / 2 ^ 32) (λ e. let p = words e in product_less a b p.0 p.1) (related rs1))
    by (Reg Mulh rd rs1 rs2) h =
        let a : ℕ = reg s.regs rs1 in
        let b : ℕ = reg s.regs rs2 in
        let both : Bool = are_low (held (v.at s.pc) rs1) (held (v.at s.pc) rs2) in
        into (divided (row_of c s.pc rs1) 1 both) rd (reg_result Mulh a b) h
        (divided_in rest (row_of c s.pc rs1) 1 both start a (reg_result Mulh a b)
        (λ e. let p = both_low (held (v.at s.pc) rs1) (held (v.at s.pc) rs2) a b e (at_of rs1) (at_of rs2) in signed_product_less a b p.0 p.1) (related rs1))
    by (Reg Divu rd rs1 rs2) h =
        let a : ℕ = reg s.regs rs1 in
        let b : ℕ = reg s.regs rs2 in
        let both : Bool = is_some (held (v.at s.pc) rs1) && nat_lt 0 (least_of (held (v.at s.pc) rs2)) in
        into (divided (row_of c s.pc rs1) (bits_off (held (v.at s.pc) rs2)) both) rd (reg_result Divu a b) h
        (divided_in rest (row_of c s.pc rs1) (bits_off (held (v.at s.pc) rs2)) both start a (reg_result Divu a b)
        (λ e. let p = and_parts (is_some (held (v.at s.pc) rs1)) (nat_lt 0 (least_of (held (v.at s.pc) rs2))) e in
        quotient_less a b (bits_off (held (v.at s.pc) rs2)) (held_word (held (v.at s.pc) rs1) a p.0 (at_of rs1))
        (off_least (held (v.at s.pc) rs2) b p.1 (at_of rs2))) (related rs1))
    by (Reg Div rd rs1 rs2) h =
        let a : ℕ = reg s.regs rs1 in
        let b : ℕ = reg s.regs rs2 in
        let both : Bool = are_low (held (v.at s.pc) rs1) (held (v.at s.pc) rs2) && nat_lt 0 (least_of (held (v.at s.pc) rs2)) in
        into (divided (row_of c s.pc rs1) (bits_off (held (v.at s.pc) rs2)) both) rd (reg_result Div a b) h
        (divided_in rest (row_of c s.pc rs1) (bits_off (held (v.at s.pc) rs2)) both start a (reg_result Div a b)
        (λ e. let p = and_parts (are_low (held (v.at s.pc) rs1) (held (v.at s.pc) rs2)) (nat_lt 0 (least_of (held (v.at s.pc) rs2))) e in
        let q = both_low (held (v.at s.pc) rs1) (held (v.at s.pc) rs2) a b p.0 (at_of rs1) (at_of rs2) in
        signed_quotient_less a b (bits_off (held (v.at s.pc) rs2)) q.0 q.1 (off_least (held (v.at s.pc) rs2) b p.1 (at_of rs2))) (related rs1))
    by (Reg Rem rd rs1 rs2) h =
        let a : ℕ = reg s.regs rs1 in
        let b : ℕ = reg s.regs rs2 in
        let both : Bool = are_low (held (v.at s.pc) rs1) (held (v.at s.pc) rs2) && nat_lt 0 (least_of (held (v.at s.pc) rs2)) in
        into (lowered (row_of c s.pc rs2) 1 both) rd (reg_result Rem a b) h
        (lowered_in rest (row_of c s.pc rs2) 1 both start b (reg_result Rem a b)
        (λ e. let p = and_parts (are_low (held (v.at s.pc) rs1) (held (v.at s.pc) rs2)) (nat_lt 0 (least_of (held (v.at s.pc) rs2))) e in
        let q = both_low (held (v.at s.pc) rs1) (held (v.at s.pc) rs2) a b p.0 (at_of rs1) (at_of rs2) in
        signed_remainder_less a b q.0 q.1 (held_more (held (v.at s.pc) rs2) 0 b p.1 (at_of rs2))) (related rs2))
    by (Reg Remu rd rs1 rs2) h =
        let a : ℕ = reg s.regs rs1 in
        let b : ℕ = reg s.regs rs2 in
        let both : Bool = is_some (held (v.at s.pc) rs2) && nat_lt 0 (least_of (held (v.at s.pc) rs2)) in
        into (lowered (row_of c s.pc rs2) 1 both) rd (reg_result Remu a b) h
        (lowered_in rest (row_of c s.pc rs2) 1 both start b (reg_result Remu a b)
        (λ e. let p = and_parts (is_some (held (v.at s.pc) rs2)) (nat_lt 0 (least_of (held (v.at s.pc) rs2))) e in
        remainder_less a b (held_word (held (v.at s.pc) rs2) b p.0 (at_of rs2)) (held_more (held (v.at s.pc) rs2) 0 b p.1 (at_of rs2))) (related rs2))
    by (Reg Sll rd rs1 rs2) h = tt
    by (Reg Slt rd rs1 rs2) h = tt
    by (Reg Sltu rd rs1 rs2) h = tt
    by (Reg Xor rd rs1 rs2) h = tt
    by (Reg Srl rd rs1 rs2) h = tt
    by (Reg Sra rd rs1 rs2) h = tt
    by (Reg Or rd rs1 rs2) h = tt
    by (Reg And rd rs1 rs2) h = into (made (Reg And rd rs1 rs2) (row_of c s.pc) (v.at s.pc)) rd (reg_result And (reg s.regs rs1) (reg s.regs rs2)) h
        (lowered_in rest (row_of c s.pc rs1) 0 (is_some (held (v.at s.pc) rs1)) start (reg s.regs rs1) (reg_result And (reg s.regs rs1) (reg s.regs rs2))
        (λ e. and_less (reg s.regs rs1) (reg s.regs rs2) (held_word (held (v.at s.pc) rs1) (reg s.regs rs1) e (at_of rs1))) (related rs1))
    by (Reg Mul rd rs1 rs2) h = tt
    by (Reg Mulhsu rd rs1 rs2) h = tt
    by (Lui rd imm) h = tt
    by (Auipc rd imm) h = tt
    by (Jal rd offset) h = tt
    by (Jalr rd rs1 offset) h = tt
    by (Branch op rs1 rs2 offset) h = tt
    by (Load op rd rs1 offset) h = tt
    by (Store op rs1 rs2 offset) h = tt
    by (Fence rd rs1 imm) h = tt
    by Ecall h = tt
    by Ebreak h = tt

    by_too : (j : Instr) → keeps r j ≡ false → Has (made_too j (row_of c s.pc) (v.at s.pc)) (performs env s i j)
    by_too (Reg Add rd rs1 rs2) h = into (moved_by_arc (row_of c s.pc rs2) (held (v.at s.pc) rs2) (held (v.at s.pc) rs1)) rd (plus (reg s.regs rs1) (reg s.regs rs2)) h
        (sum_both_in rest (row_of c s.pc rs2) (held (v.at s.pc) rs2) (held (v.at s.pc) rs1) start (reg s.regs rs2) (reg s.regs rs1) (at_of rs2) (at_of rs1) (related rs2))
    by_too (Reg Mulhu rd rs1 rs2) h =
        let a : ℕ = reg s.regs rs1 in
        let b : ℕ = reg s.regs rs2 in
        let both : Bool = is_some (held (v.at s.pc) rs1) && is_some (held (v.at s.pc) rs2) in
        let words : both ≡ true → (a < 2 ^ 32) × (b < 2 ^ 32) = λ e. let p = and_parts (is_some (held (v.at s.pc) rs1)) (is_some (held (v.at s.pc) rs2)) e in
        (held_word (held (v.at s.pc) rs1) a p.0 (at_of rs1), held_word (held (v.at s.pc) rs2) b p.1 (at_of rs2)) in
        into (divided (row_of c s.pc rs2) 0 both) rd (a * b / 2 ^ 32) h
        (divided_in rest (row_of c s.pc rs2) 0 both start b (a * b / 2 ^ 32) (λ e. let p = words e in product_less_too a b p.0 p.1) (related rs2))
    by_too (Reg Mulh rd rs1 rs2) h =
        let a : ℕ = reg s.regs rs1 in
        let b : ℕ = reg s.regs rs2 in
        let both : Bool = are_low (held (v.at s.pc) rs1) (held (v.at s.pc) rs2) in
        into (divided (row_of c s.pc rs2) 1 both) rd (reg_result Mulh a b) h
        (divided_in rest (row_of c s.pc rs2) 1 both start b (reg_result Mulh a b)
        (λ e. let p = both_low (held (v.at s.pc) rs1) (held (v.at s.pc) rs2) a b e (at_of rs1) (at_of rs2) in signed_product_less_too a b p.0 p.1) (related rs2))
    by_too (Imm Addi rd rs1 imm) h = tt
    by_too (Imm Slti rd rs1 imm) h = tt
    by_too (Imm Sltiu rd rs1 imm) h = tt
    by_too (Imm Xori rd rs1 imm) h = tt
    by_too (Imm Ori rd rs1 imm) h = tt
    by_too (Imm Andi rd rs1 imm) h = tt
    by_too (Imm Slli rd rs1 imm) h = tt
    by_too (Imm Srli rd rs1 imm) h = tt
    by_too (Imm Srai rd rs1 imm) h = tt
    by_too (Reg Sub rd rs1 rs2) h = tt
    by_too (Reg Sll rd rs1 rs2) h = tt
    by_too (Reg Slt rd rs1 rs2) h = tt
    by_too (Reg Sltu rd rs1 rs2) h = tt
    by_too (Reg Xor rd rs1 rs2) h = tt
    by_too (Reg Srl rd rs1 rs2) h = tt
    by_too (Reg Sra rd rs1 rs2) h = tt
    by_too (Reg Or rd rs1 rs2) h = tt
    by_too (Reg And rd rs1 rs2) h = into (made_too (Reg And rd rs1 rs2) (row_of c s.pc) (v.at s.pc)) rd (reg_result And (reg s.regs rs1) (reg s.regs rs2)) h
        (lowered_in rest (row_of c s.pc rs2) 0 (is_some (held (v.at s.pc) rs2)) start (reg s.regs rs2) (reg_result And (reg s.regs rs1) (reg s.regs rs2))
        (λ e. and_less_too (reg s.regs rs1) (reg s.regs rs2) (held_word (held (v.at s.pc) rs2) (reg s.regs rs2) e (at_of rs2))) (related rs2))
    by_too (Reg Mul rd rs1 rs2) h = tt
    by_too (Reg Mulhsu rd rs1 rs2) h = tt
    by_too (Reg Div rd rs1 rs2) h = tt
    by_too (Reg Divu rd rs1 rs2) h = tt
    by_too (Reg Rem rd rs1 rs2) h = tt
    by_too (Reg Remu rd rs1 rs2) h = tt
    by_too (Lui rd imm) h = tt
    by_too (Auipc rd imm) h = tt
    by_too (Jal rd offset) h = tt
    by_too (Jalr rd rs1 offset) h = tt
    by_too (Branch op rs1 rs2 offset) h = tt
    by_too (Load op rd rs1 offset) h = tt
    by_too (Store op rs1 rs2 offset) h = tt
    by_too (Fence rd rs1 imm) h = tt
    by_too Ecall h = tt
    by_too Ebreak h = tt

    made_holds : keeps r i ≡ false → IsRelated rest (made i (row_of c s.pc) (v.at s.pc)) start (reg after.regs r)
    made_holds h = step_of (λ o. o.end ≡ Went x → Has (made i (row_of c s.pc) (v.at s.pc)) o) env s i here (λ end. by i h) (λ end. let bad : ⊥ = cc in absurd bad) went

    made_too_holds : keeps r i ≡ false → IsRelated rest (made_too i (row_of c s.pc) (v.at s.pc)) start (reg after.regs r)
    made_too_holds h = step_of (λ o. o.end ≡ Went x → Has (made_too i (row_of c s.pc) (v.at s.pc)) o) env s i here (λ end. by_too i h) (λ end. let bad : ⊥ = cc in absurd bad) went

    made_over : (b : Relation) → IsMadeOver v c s.pc i r b → IsRelated rest b start (reg after.regs r)
    made_over b (writes, q) = ⊎_elim
        (λ (z : IsWeaker b (made i (row_of c s.pc) (v.at s.pc))). weaker_in rest b (made i (row_of c s.pc) (v.at s.pc)) start (reg after.regs r) (made_holds writes) z)
        (λ (z : IsWeaker b (made_too i (row_of c s.pc) (v.at s.pc))). weaker_in rest b (made_too i (row_of c s.pc) (v.at s.pc)) start (reg after.regs r) (made_too_holds writes) z) q

    loaded_over : (b : Relation) → IsLoadedOwn w c s.pc i r b → IsRelated rest b start (reg after.regs r)
    loaded_over b q = weaker_in rest b (c.own s.pc) start (reg after.regs r)
        (subst (λ n. IsRelated rest (c.own s.pc) start n) (sym (gets env keyless v w offsets s zero_is size begun told i here x went q.0 r is q.2)) (own_now q.0 q.1)) q.3

    -- what a read answers
    read_over : (b : Relation) → IsReadInto v c s.pc i r b → IsRelated rest b start (reg after.regs r)
    read_over b q =
        let less : ℕ = consumed_by (c.own s.pc) in
        let before : left env s + less ≤ start = facts.left q.0 in
        let number : reg s.regs 17 ≡ read_number = one_held (held (v.at s.pc) 17) read_number (reg s.regs 17) q.3 (at_of 17) in
        let answers : Answers env s after = read_answers env s size number x (here ∙ ap Some q.1) went in
        let ten : IsRelated rest (read less) start (reg after.regs 10) =
        ⊎_elim (λ (a : left env after + reg after.regs 10 % 2 ^ 32 ≤ left env s). inl (let z : rest + reg after.regs 10 % 2 ^ 32 + less ≤ start = omega arith in z)) (λ (a : IsError (reg after.regs 10)). inr a) answers in
        weaker_in rest b (read less) start (reg after.regs r) (subst (λ n. IsRelated rest (read less) start (reg after.regs n)) (sym q.2) ten) q.4

    pub row_holds : (b : Relation) → IsRowOver v w c s.pc i r b → IsRelated rest b start (reg after.regs r)
    row_holds b over = ⊎_elim
        (λ (q : (keeps r i ≡ true) × IsWeaker b (c.row s.pc r)). weaker_in rest b (c.row s.pc r) start (reg after.regs r)
        (subst (λ n. IsRelated rest (c.row s.pc r) start n) (sym (steps_leave env s i r here q.0)) (rows_now r is)) q.1)
        (λ (others : IsMadeOver v c s.pc i r b ⊎ IsLoadedOwn w c s.pc i r b ⊎ IsReadInto v c s.pc i r b ⊎ IsWeaker b unknown). ⊎_elim
        (λ (q : IsMadeOver v c s.pc i r b). made_over b q)
        (λ (more : IsLoadedOwn w c s.pc i r b ⊎ IsReadInto v c s.pc i r b ⊎ IsWeaker b unknown). ⊎_elim (λ (q : IsLoadedOwn w c s.pc i r b). loaded_over b q)
        (λ (few : IsReadInto v c s.pc i r b ⊎ IsWeaker b unknown). ⊎_elim (λ (q : IsReadInto v c s.pc i r b). read_over b q)
        (λ (q : IsWeaker b unknown). weaker_in rest b unknown start (reg after.regs r) tt q) few) more) others) over

    -- what a comparison says
    compared : (q : Said) (b : Relation) → is_taken q.op (reg s.regs q.first) (reg s.regs q.second) ≡ true → keeps r i ≡ true →
        are_ordered q.op (held (v.at s.pc) q.first) (held (v.at s.pc) q.second) ≡ true →
        ((r ≡ q.first) × IsWeaker b (first_related q.op (row_of c s.pc q.second))) ⊎ ((r ≡ q.second) × IsWeaker b (second_related q.op (row_of c s.pc q.first))) →
        IsRelated rest b start (reg after.regs r)
    compared q b so keep are which =
        let words = both_words q.op (held (v.at s.pc) q.first) (held (v.at s.pc) q.second) are in
        let x : reg s.regs q.first < 2 ^ 32 = held_word (held (v.at s.pc) q.first) (reg s.regs q.first) words.0 (at_of q.first) in
        let y : reg s.regs q.second < 2 ^ 32 = held_word (held (v.at s.pc) q.second) (reg s.regs q.second) words.1 (at_of q.second) in
        let order = ordered_so q.op (held (v.at s.pc) q.first) (held (v.at s.pc) q.second) (reg s.regs q.first) (reg s.regs q.second) (at_of q.first) (at_of q.second) are so in
        subst (λ n. IsRelated rest b start n) (sym (steps_leave env s i r here keep)) (⊎_elim
        (λ (k : (r ≡ q.first) × IsWeaker b (first_related q.op (row_of c s.pc q.second))). subst (λ n. IsRelated rest b start (reg s.regs n)) (sym k.0)
        (weaker_in rest b (first_related q.op (row_of c s.pc q.second)) start (reg s.regs q.first)
        (first_in rest q.op (row_of c s.pc q.second) start (reg s.regs q.first) (reg s.regs q.second) x y order (related q.second)) k.1))
        (λ (k : (r ≡ q.second) × IsWeaker b (second_related q.op (row_of c s.pc q.first))). subst (λ n. IsRelated rest b start (reg s.regs n)) (sym k.0)
        (weaker_in rest b (second_related q.op (row_of c s.pc q.first)) start (reg s.regs q.second)
        (second_in rest q.op (row_of c s.pc q.first) start (reg s.regs q.first) (reg s.regs q.second) x y order (related q.first)) k.1)) which)

    pub row_on : (memory : AreBytes s.bytes) (to : ℕ) → after.pc ≡ to → (b : Relation) → IsRowOn v w c s.pc i to r b → IsRelated rest b start (reg after.regs r)
    row_on memory to same b on = ⊎_elim (λ (q : IsRowOver v w c s.pc i r b). row_holds b q)
        (λ (q : IsRelatedBy v c s.pc i to r b). compared q.0 b (go q.0 (subst (λ n. said i s.pc n ≡ Some q.0) (sym same) q.1)) q.2 q.3 q.4) on
      where
        so_of : (o : Option Said) (q : Said) → o ≡ Some q → IsSo env keyless s (v.at s.pc) zero_is size told.registers.each memory o → is_taken q.op (reg s.regs q.first) (reg s.regs q.second) ≡ true
        so_of (Some p) q e h = let f : p ≡ q = cc in subst (λ (k : Said). is_taken k.op (reg s.regs k.first) (reg s.regs k.second) ≡ true) f h
        so_of None q e h = let bad : ⊥ = cc in absurd bad

        go : (q : Said) → said i s.pc after.pc ≡ Some q → is_taken q.op (reg s.regs q.first) (reg s.regs q.second) ≡ true
        go q e = so_of (said i s.pc after.pc) q e (so_behind env keyless s (v.at s.pc) zero_is size told.registers.each memory i x here went)

  pub word_holds : (k : ℕ) → c.place ≡ in_word k → (b : Relation) → IsWordOver v w c s.pc i k b → IsRelated rest b start (then.words k)
  word_holds k same b over = ⊎_elim
      (λ (q : IsMissed v w s.pc i k × IsWeaker b (c.own s.pc)). weaker_in rest b (c.own s.pc) start (then.words k)
      (subst (λ n. IsRelated rest (c.own s.pc) start n) (sym (misses env keyless v w offsets s zero_is size begun told i here own k q.0)) (own_now k same)) q.1)
      (λ (q : (r : ℕ) × IsStoredFrom w s.pc i k r × IsWeaker b (row_of c s.pc r)). weaker_in rest b (row_of c s.pc q.0) start (then.words k)
      (subst (λ n. IsRelated rest (row_of c s.pc q.0) start n) (sym (puts env keyless v w offsets s zero_is size begun told i here x went k q.0 q.1))
      (same_in rest (row_of c s.pc q.0) start (reg s.regs q.0) (reg s.regs q.0 % 2 ^ 32) (let e : reg s.regs q.0 % 2 ^ 32 % 2 ^ 32 ≡ reg s.regs q.0 % 2 ^ 32 = omega arith in e) (related q.0))) q.2) over

  -- what is taken from the input
  module _ (to : ℕ) (holds : (r : ℕ) → IsRegister r → IsHeld (passed i s.pc to (v.at s.pc) r) (reg after.regs r)) (counts : c.place ≡ in_input) where
    counted : (n : ℕ) → IsCounted v c s.pc i to n → rest + n ≤ start
    counted n (r, less, is, keep, row, low, le) =
        let k : Option Arc = passed i s.pc to (v.at s.pc) r in
        let leaves : reg after.regs r ≡ reg s.regs r = steps_leave env s i r here keep in
        let said : IsRelated rest (read less) start (reg after.regs r) =
        subst (λ m. IsRelated rest (read less) start m) (sym leaves) (subst (λ p. IsRelated rest p start (reg s.regs r)) row (rows_now r is)) in
        let under = under_top k (reg after.regs r) (holds r is) in
        let above = least_mod k (reg after.regs r) (holds r is) in
        ⊎_elim (λ (a : rest + reg after.regs r % 2 ^ 32 + less ≤ start). let z : rest + n ≤ start = omega arith in z)
        (λ (a : IsError (reg after.regs r)). absurd (let bad : ⊥ = omega arith in bad)) said

    pub taken_holds : (n : ℕ) → IsTakenOn v c s.pc i to n → rest + n ≤ start
    taken_holds n on = ⊎_elim (λ (q : n ≤ consumed_by (c.own s.pc)). let before = facts.left counts in let le = falls in let z : rest + n ≤ start = omega arith in z)
        (λ (q : IsCounted v c s.pc i to n). counted n q) on

  pub place_holds : (to : ℕ) → ((r : ℕ) → IsRegister r → IsHeld (passed i s.pc to (v.at s.pc) r) (reg after.regs r)) → (p : Place) → c.place ≡ p → (b : Relation) →
      IsPlaceOn v w c s.pc i to p b → IsPlaceRelated p b rest start then
  place_holds to holds (in_register r) same b over = row_holds r over.0 b over.1
  place_holds to holds (in_word k) same b over = word_holds k same b over
  place_holds to holds in_input same b over = (over.0, over.1, taken_holds to holds same over.0 over.2)

  -- what isn't 0 was none at the header
  pub evident : (to : ℕ) → after.pc ≡ to → ((r : ℕ) → IsRegister r → IsHeld (passed i s.pc to (v.at s.pc) r) (reg after.regs r)) → IsEvident v c s.pc i to → 0 < start
  evident to same holds (r, less, shift, is, keep, row, some) =
      some_start (reg s.regs r) less start shift
      (subst (λ p. IsRelated rest p start (reg s.regs r)) row (rows_now r is))
      (subst (λ n. 0 < n) (steps_leave env s i r here keep) (positive (passed i s.pc to (v.at s.pc) r) (reg after.regs r) some (holds r is)))
      (subst (λ n. n < 2 ^ 32) (steps_leave env s i r here keep) (small (passed i s.pc to (v.at s.pc) r) (reg after.regs r) some (holds r is)))
    where
      positive : (k : Option Arc) (n : ℕ) → 0 < least_of k → IsHeld k n → 0 < n
      positive k n some h = held_more k 0 n (lt-ltb 0 (least_of k) some) h

      small : (k : Option Arc) (n : ℕ) → 0 < least_of k → IsHeld k n → n < 2 ^ 32
      small None n some h = absurd (let bad : ⊥ = omega arith in bad)
      small (Some k) n some h = h.word

      some_start : (n less start shift : ℕ) → n % 2 ^ 32 + less ≤ start / 2 ^ shift → 0 < n → n < 2 ^ 32 → 0 < start
      some_start n less start shift h some low = let q = div-le_self start (2 ^ shift) in let e : n % 2 ^ 32 ≡ n = omega arith in omega arith
