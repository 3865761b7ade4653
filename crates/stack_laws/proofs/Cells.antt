-- What a step does to the numbers of cells, and what a load of one gives.
use Rattle.std.proofs.Common.{◌≡◌, ℕ, zero, suc, ◌+◌, ◌-◌, ◌*◌, ◌<◌, ◌≤◌, ◌%◌, ◌^◌, inl, inr, ⊎_elim, List, length, refl, sym, ap, ◌∙◌, subst, arith, Option, Some, None}
use Rattle.std.specs.Prelude.{ℤ, pos, ◌==◌, not, min}
use Rattle.std.specs.Int.{w8, w16, cast_signed}
use Rattle.std.proofs.lemmas.Bool.{cond_both, cases_lt}
use Rattle.std.proofs.lemmas.Int.{to_z_pos}
use Rattle.std.proofs.Math.Nat.{mod-eq_of_lt}
use Rattle.scale_base.specs.declared.instruction.LoadOp.{LoadOp}
use Rattle.scale_base.specs.declared.instruction.LoadOp.TheVariants.{Lb, Lh, Lw, Lbu, Lhu}
use Rattle.scale_base.specs.declared.instruction.StoreOp.{StoreOp}
use Rattle.scale_base.specs.declared.instruction.StoreOp.TheVariants.{Sb, Sh, Sw}
use Rattle.scale_base.specs.declared.instruction.Instr.{Instr}
use Rattle.scale_base.specs.declared.instruction.Instr.TheVariants.{Lui, Auipc, Jal, Jalr, Branch, Load, Store, Imm, Reg, Fence, Ecall, Ebreak}
use Rattle.scale_base.specs.declared.stepping.Stepped.{Stepped}
use Rattle.scale_base.specs.declared.stepping.StepEnd.TheVariants.{Went}
use Rattle.scale_base.specs.Reading.{instr_of}
use Rattle.scale_base.specs.Layout.{can_read, can_write, uses_window}
use Rattle.scale_base.specs.Arith.{moved_by, unsigned, load_width, loaded, store_width, stored}
use Rattle.scale_base.specs.State.{Setting, State, reg, half_at, word_at, with_half, with_word}
use Rattle.scale_base.specs.Step.{Outcome, loads, stores, performs, step}
use Rattle.bound_laws.specs.Values.{Arc, IsIn, IsHeld, Covers, sum_with, top, top_of, held, IsRegister, Values}
use Rattle.bound_laws.proofs.Laws.{sum_with_in, in_covers, below_top, only_one, step_of}
use Rattle.stack_laws.specs.Cells.{Cell, number_at, IsCellHeld, IsOnly, IsBeside, unsigned_below}
use Rattle.stack_laws.specs.Stacks.{Stacks, view_of, HasNot, IsClear, IsPutInto, IsCellKept, IsCellLoaded, AreTold}
use Rattle.stack_laws.proofs.Stores.{AreOut, AreSame, first_same, rest_same, byte_in, half_in, word_in, no_window, put}
use Rattle.stack_laws.proofs.Naming.{has_not}
use Rattle.stack_laws.proofs.Stepping.{held_at, count_top, bytes_by}

-- ---- numbers of bytes

number_same : (f g : ℕ → ℕ) (q n : ℕ) → AreSame f g q n → number_at f q n ≡ number_at g q n
unfolding number_at
number_same f g q zero same = refl
number_same f g q (suc n) same =
    ap (λ x. x + 2 ^ 8 * number_at f (q + 1) n) (first_same f g q (suc n) (omega arith) same)
    ∙ ap (λ x. g q + 2 ^ 8 * x) (number_same f g (q + 1) n (rest_same f g q n same))

pub one_byte : (bytes : ℕ → ℕ) (at : ℕ) → number_at bytes at 1 ≡ bytes at
unfolding number_at
one_byte bytes at = omega arith

pub two_bytes : (bytes : ℕ → ℕ) (at : ℕ) → number_at bytes at 2 ≡ half_at bytes at
unfolding number_at
two_bytes bytes at = omega arith

pub four_bytes : (bytes : ℕ → ℕ) (at : ℕ) → number_at bytes at 4 ≡ word_at bytes at
unfolding number_at
four_bytes bytes at =
    let two : bytes (at + 1 + 1) ≡ bytes (at + 2) = ap bytes (let e : at + 1 + 1 ≡ at + 2 = omega arith in e) in
    let three : bytes (at + 1 + 1 + 1) ≡ bytes (at + 3) = ap bytes (let e : at + 1 + 1 + 1 ≡ at + 3 = omega arith in e) in
    omega arith

-- what is stored
stored_number : (op : StoreOp) (bytes : ℕ → ℕ) (at value : ℕ) → number_at (stored op bytes at value) at (store_width op) ≡ value % 2 ^ (8 * store_width op)
stored_number Sb bytes at value = one_byte (stored Sb bytes at value) at ∙ byte_in bytes at (value % 256)
stored_number Sh bytes at value = two_bytes (with_half bytes at value) at ∙ half_in bytes at value
stored_number Sw bytes at value = four_bytes (with_word bytes at value) at ∙ word_in bytes at value

byte_positive : (n : ℕ) → n < 2 ^ 7 → unsigned (cast_signed w8 n) ≡ n
byte_positive n h = ap unsigned (to_z_pos w8 n h) ∙ (let e : unsigned (pos n) ≡ n = omega arith in e)

half_positive : (n : ℕ) → n < 2 ^ 15 → unsigned (cast_signed w16 n) ≡ n
half_positive n h = ap unsigned (to_z_pos w16 n h) ∙ (let e : unsigned (pos n) ≡ n = omega arith in e)

-- what is loaded
loaded_number : (op : LoadOp) (bytes : ℕ → ℕ) (at : ℕ) → number_at bytes at (load_width op) < unsigned_below op → loaded op bytes at ≡ number_at bytes at (load_width op)
loaded_number Lb bytes at h = byte_positive (bytes at) (subst (λ n. n < 2 ^ 7) (one_byte bytes at) h) ∙ sym (one_byte bytes at)
loaded_number Lh bytes at h = half_positive (half_at bytes at) (subst (λ n. n < 2 ^ 15) (two_bytes bytes at) h) ∙ sym (two_bytes bytes at)
loaded_number Lw bytes at h = sym (four_bytes bytes at)
loaded_number Lbu bytes at h = sym (one_byte bytes at)
loaded_number Lhu bytes at h = sym (two_bytes bytes at)

module _ (env : Setting) (keyless : env.layout.keyed ≡ None) (s : State) (i : Instr) where
  stores_number : (op : StoreOp) (at value : ℕ) (x : Stepped) → (stores env s i op at value).end ≡ Went x → number_at (stores env s i op at value).state.bytes at (store_width op) ≡ value % 2 ^ (8 * store_width op)
  stores_number op at value x =
      let P : Outcome → Type 0 = λ o. o.end ≡ Went x → number_at o.state.bytes at (store_width op) ≡ value % 2 ^ (8 * store_width op) in
      cond_both (not (at % store_width op == 0)) _ _ P (λ _ h. let bad : ⊥ = cc in absurd bad)
      (λ _. cond_both (uses_window env.layout s.pc at (store_width op)) _ _ P (λ u h. absurd (no_window env keyless s i at (store_width op) u))
      (λ _. cond_both (can_write env.layout at (store_width op)) _ _ P (λ _ h. stored_number op s.bytes at value) (λ _ h. let bad : ⊥ = cc in absurd bad)))

  loads_number : (op : LoadOp) (rd at : ℕ) (x : Stepped) → IsRegister rd → length s.regs ≡ 32 → (loads env s i op rd at).end ≡ Went x → reg (loads env s i op rd at).state.regs rd ≡ loaded op s.bytes at
  loads_number op rd at x is size =
      let P : Outcome → Type 0 = λ o. o.end ≡ Went x → reg o.state.regs rd ≡ loaded op s.bytes at in
      cond_both (not (at % load_width op == 0)) _ _ P (λ _ h. let bad : ⊥ = cc in absurd bad)
      (λ _. cond_both (uses_window env.layout s.pc at (load_width op)) _ _ P (λ u h. absurd (no_window env keyless s i at (load_width op) u))
      (λ _. cond_both (can_read env.layout s.pc at (load_width op)) _ _ P (λ _ h. put s.regs rd (loaded op s.bytes at) is size) (λ _ h. let bad : ⊥ = cc in absurd bad)))

-- ---- places

only : (i : Option Arc) (at x : ℕ) → IsHeld i x → IsOnly i at → x ≡ at
only None at x held is = absurd is
only (Some i) at x held is = only_one i x held is.1 ∙ is.0

beside : (low more at width many few x : ℕ) → low < 2 ^ 32 → x < 2 ^ 32 → (x + (2 ^ 32 - low)) % 2 ^ 32 ≤ more → more < (at + (2 ^ 32 - low)) % 2 ^ 32 → width + more ≤ (at + (2 ^ 32 - low)) % 2 ^ 32 → (at + (2 ^ 32 - low)) % 2 ^ 32 + many ≤ 2 ^ 32 →
    few ≤ width → at < 2 ^ 32 → AreOut x few at many
beside low more at width many few x a b near d e f le small = ⊎_elim
    (λ (l : x < at). inl (let r : x + few ≤ at = omega arith in r))
    (λ (g : at ≤ x). inr (let r : at + many ≤ x = omega arith in r)) (cases_lt x at)

beside_out : (i : Option Arc) (width : ℕ) (c : Cell) (few x : ℕ) → IsHeld i x → IsBeside i width c → few ≤ width → x + few ≤ 2 ^ 32 → AreOut x few c.at c.width
beside_out None width c few x held is le fits = absurd is
beside_out (Some i) width c few x held is le fits = ⊎_elim
    (λ (l : c.at < 2 ^ 32). beside i.low i.more c.at width c.width few x held.start held.word held.near is.0 is.1 is.2 le l)
    (λ (g : 2 ^ 32 ≤ c.at). inl (let r : x + few ≤ c.at = omega arith in r)) (cases_lt c.at (2 ^ 32))

at_most_top : (i : Option Arc) (c : Arc) (x : ℕ) → IsHeld i x → Covers (Some c) i → x ≤ top_of i
at_most_top None c x held is = absurd is
at_most_top (Some i) c x held is = below_top i x held

-- ---- steps

module _ (env : Setting) (keyless : env.layout.keyed ≡ None) (v : Values) (w : Stacks) (offsets : (k : ℕ) → w.offset k < 2 ^ 32) (s : State) (zero_is : reg s.regs 0 ≡ 0) (size : length s.regs ≡ 32) (begun : List ℕ)
    (told : AreTold v w s.pc (view_of w begun s.regs s.bytes)) (i : Instr) (here : instr_of (word_at s.bytes s.pc) ≡ Some i) where
  abbrev after : State
  after = (step env s).state

  has : (r : ℕ) → IsHeld (held (v.at s.pc) r) (reg s.regs r)
  has r = held_at env keyless v w offsets s zero_is size begun told i here r

  clear_keeps : (c : Cell) → IsClear v s.pc i c → number_at after.bytes c.at c.width ≡ number_at s.bytes c.at c.width
  clear_keeps c clear = number_same after.bytes s.bytes c.at c.width (bytes_by env keyless v w offsets s zero_is size begun told i here c.at c.width
      (λ op rs1 rs2 offset e fits.
      let h : IsBeside (sum_with (held (v.at s.pc) rs1) (unsigned offset)) (store_width op) c = subst (λ j. IsClear v s.pc j c) e clear in
      beside_out (sum_with (held (v.at s.pc) rs1) (unsigned offset)) (store_width op) c (store_width op) (moved_by (reg s.regs rs1) offset) (sum_with_in (held (v.at s.pc) rs1) (unsigned offset) (reg s.regs rs1) (has rs1)) h (omega arith) fits)
      (λ e read m few asked fits.
      let n : ℕ = min 256 (top_of (held (v.at s.pc) 12)) in
      ⊎_elim (λ (no : HasNot (held (v.at s.pc) 17) 63). absurd (has_not (held (v.at s.pc) 17) 63 (subst (λ k. IsHeld (held (v.at s.pc) 17) k) read (has 17)) no))
      (λ (h : IsBeside (held (v.at s.pc) 11) n c). beside_out (held (v.at s.pc) 11) n c m (reg s.regs 11) (has 11) h (count_top env keyless v w offsets s zero_is size begun told i here m few asked) fits)
      (subst (λ j. IsClear v s.pc j c) e clear)))

  module _ (x : Stepped) (went : (step env s).end ≡ Went x) where
    put_by : (c : Cell) (j : Instr) → IsPutInto v s.pc j c → (performs env s i j).end ≡ Went x → IsIn c.values (number_at (performs env s i j).state.bytes c.at c.width)
    put_by c (Store op rs1 rs2 offset) into end =
        let place : moved_by (reg s.regs rs1) offset ≡ c.at = only (sum_with (held (v.at s.pc) rs1) (unsigned offset)) c.at (moved_by (reg s.regs rs1) offset) (sum_with_in (held (v.at s.pc) rs1) (unsigned offset) (reg s.regs rs1) (has rs1)) into.place_is in
        let number : number_at (performs env s i (Store op rs1 rs2 offset)).state.bytes (moved_by (reg s.regs rs1) offset) (store_width op) ≡ reg s.regs rs2 % 2 ^ (8 * store_width op) = stores_number env keyless s i op (moved_by (reg s.regs rs1) offset) (reg s.regs rs2) x end in
        let most : reg s.regs rs2 ≤ top_of (held (v.at s.pc) rs2) = at_most_top (held (v.at s.pc) rs2) c.values (reg s.regs rs2) (has rs2) into.within in
        let short : top_of (held (v.at s.pc) rs2) < 2 ^ (8 * store_width op) = subst (λ n. top_of (held (v.at s.pc) rs2) < 2 ^ (8 * n)) (sym into.width_is) into.short in
        let small : reg s.regs rs2 < 2 ^ (8 * store_width op) = omega arith in
        let value : IsIn c.values (reg s.regs rs2) = in_covers (held (v.at s.pc) rs2) (Some c.values) (reg s.regs rs2) (has rs2) into.within in
        subst (λ a. IsIn c.values (number_at (performs env s i (Store op rs1 rs2 offset)).state.bytes a c.width)) place
        (subst (λ n. IsIn c.values (number_at (performs env s i (Store op rs1 rs2 offset)).state.bytes (moved_by (reg s.regs rs1) offset) n)) into.width_is
        (subst (IsIn c.values) (sym (number ∙ mod-eq_of_lt small)) value))
    put_by c (Lui rd imm) into end = absurd into
    put_by c (Auipc rd imm) into end = absurd into
    put_by c (Jal rd offset) into end = absurd into
    put_by c (Jalr rd rs1 offset) into end = absurd into
    put_by c (Branch op rs1 rs2 offset) into end = absurd into
    put_by c (Load op rd rs1 offset) into end = absurd into
    put_by c (Imm op rd rs1 imm) into end = absurd into
    put_by c (Reg op rd rs1 rs2) into end = absurd into
    put_by c (Fence rd rs1 imm) into end = absurd into
    put_by c Ecall into end = absurd into
    put_by c Ebreak into end = absurd into

    cell_by : (o : Option Cell) → IsCellHeld o s.bytes → IsCellKept v s.pc i o → IsCellHeld o after.bytes
    cell_by None holds kept = tt
    cell_by (Some c) holds kept = ⊎_elim
        (λ (clear : IsClear v s.pc i c). subst (IsIn c.values) (sym (clear_keeps c clear)) holds)
        (λ (into : IsPutInto v s.pc i c). step_of (λ o. o.end ≡ Went x → IsIn c.values (number_at o.state.bytes c.at c.width)) env s i here (λ end. put_by c i into end) (λ end. let bad : ⊥ = cc in absurd bad) went) kept

    pub cell_kept : (k : ℕ) → IsCellKept v s.pc i (w.cell k) → IsCellHeld (w.cell k) after.bytes
    cell_kept k kept = cell_by (w.cell k) (told.cells k) kept

    pub reads : (op : LoadOp) (r rs1 : ℕ) (offset : ℤ) → IsRegister r → i ≡ Load op r rs1 offset → reg after.regs r ≡ loaded op s.bytes (moved_by (reg s.regs rs1) offset)
    reads op r rs1 offset is e = step_of (λ o. o.end ≡ Went x → reg o.state.regs r ≡ loaded op s.bytes (moved_by (reg s.regs rs1) offset)) env s i here
        (λ end. subst (λ j. (performs env s i j).end ≡ Went x → reg (performs env s i j).state.regs r ≡ loaded op s.bytes (moved_by (reg s.regs rs1) offset)) (sym e) (loads_number env keyless s i op r (moved_by (reg s.regs rs1) offset) x is size) end)
        (λ end. let bad : ⊥ = cc in absurd bad) went

-- a register to which a cell is loaded
pub cell_loaded : (v : Values) (w : Stacks) (i : Instr) (a b r : ℕ) (before after : List ℕ) (bytes : ℕ → ℕ) → ((n : ℕ) → IsHeld (held (v.at a) n) (reg before n)) → ((k : ℕ) → IsCellHeld (w.cell k) bytes) →
    ((op : LoadOp) (rs1 : ℕ) (offset : ℤ) → i ≡ Load op r rs1 offset → reg after r ≡ loaded op bytes (moved_by (reg before rs1) offset)) → IsCellLoaded v w i a b r → IsHeld (v.at b r) (reg after r)
cell_loaded v w i a b r before after bytes has cells reads x =
    let c : Cell = x.cell in
    let place : moved_by (reg before x.rs1) x.offset ≡ c.at = only (sum_with (held (v.at a) x.rs1) (unsigned x.offset)) c.at (moved_by (reg before x.rs1) x.offset) (sum_with_in (held (v.at a) x.rs1) (unsigned x.offset) (reg before x.rs1) (has x.rs1)) x.loaded.place_is in
    let number : IsIn c.values (number_at bytes c.at c.width) = subst (λ o. IsCellHeld o bytes) x.cell_is (cells x.number) in
    let here : IsIn c.values (number_at bytes c.at (load_width x.op)) = subst (λ n. IsIn c.values (number_at bytes c.at n)) (sym x.loaded.width_is) number in
    let most : number_at bytes c.at (load_width x.op) ≤ top c.values = below_top c.values (number_at bytes c.at (load_width x.op)) here in
    let limit : top c.values < unsigned_below x.op = x.loaded.below in
    let small : number_at bytes c.at (load_width x.op) < unsigned_below x.op = omega arith in
    let value : reg after r ≡ number_at bytes c.at (load_width x.op) = reads x.op x.rs1 x.offset x.loads ∙ (ap (loaded x.op bytes) place ∙ loaded_number x.op bytes c.at small) in
    in_covers (Some c.values) (v.at b r) (reg after r) (subst (IsIn c.values) (sym value) here) x.covers
