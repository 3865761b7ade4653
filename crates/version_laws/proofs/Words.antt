-- Registers hold words along a run, where memory and the input hold bytes.
use Rattle.std.proofs.Common.{◌≡◌, ℕ, zero, suc, ◌+◌, ◌-◌, ◌*◌, ◌/◌, ◌%◌, ◌^◌, ◌<◌, ◌≤◌, Bool, true, false, List, length, Option, Some, None, refl, sym, ap, subst, arith, inl, inr}
use Rattle.std.specs.Prelude.{ℤ, pos, negsuc, ◌*ℤ◌, ◌==◌, ◌&&◌, ◌||◌, not, nat_lt, int_lt, int_div, int_rem, slice_set, All, IfSome}
use Rattle.std.specs.Int.{w8, w16, w32, w64, cast_signed, cast_unsigned, int_shr}
use Rattle.std.proofs.Math.ListN.{get_or-eq_default}
use Rattle.std.proofs.Math.Nat.{div-le_self, mul-le-mul, mod-le}
use Rattle.std.proofs.lemmas.Bool.{cond_both, ltb-true, ltb-false, le-ltb, cases_lt}
use Rattle.std.proofs.lemmas.Int.{to_z_pos}
use Rattle.std.proofs.lemmas.List.Elements.{All-get_or, All-set}
use Rattle.std.proofs.lemmas.Nat.{mul-le, or_of_32, xor_of_32, and_le_l}
use lib.IntN.{neg_ℤ}
use lib.Signed.{mag, mag_rem, mag_shr}
use mir.Val.{sel}
use Rattle.scale_base.specs.declared.instruction.LoadOp.{LoadOp}
use Rattle.scale_base.specs.declared.instruction.LoadOp.TheVariants.{Lb, Lh, Lw, Lbu, Lhu}
use Rattle.scale_base.specs.declared.instruction.StoreOp.{StoreOp}
use Rattle.scale_base.specs.declared.instruction.ImmOp.{ImmOp}
use Rattle.scale_base.specs.declared.instruction.ImmOp.TheVariants.{Addi, Slti, Sltiu, Xori, Ori, Andi, Slli, Srli, Srai}
use Rattle.scale_base.specs.declared.instruction.RegOp.{RegOp}
use Rattle.scale_base.specs.declared.instruction.RegOp.TheVariants.{Add, Sub, Sll, Slt, Sltu, Xor, Srl, Sra, Or, And, Mul, Mulh, Mulhsu, Mulhu, Div, Divu, Rem, Remu}
use Rattle.scale_base.specs.declared.instruction.Instr.{Instr}
use Rattle.scale_base.specs.declared.instruction.Instr.TheVariants.{Lui, Auipc, Jal, Jalr, Branch, Load, Store, Imm, Reg, Fence, Ecall, Ebreak}
use Rattle.scale_base.specs.Reading.{instr_of}
use Rattle.scale_base.specs.Layout.{in_window, is_keyed, can_fetch, can_read, can_write, uses_window, may_write, reads_byte}
use Rattle.scale_base.specs.Arith.{plus, moved_by, signed, unsigned, upper_half, one_if, load_width, store_width, loaded, is_taken, reg_op_for, reg_result, imm_result}
use Rattle.scale_base.specs.State.{Setting, State, reg, with_reg, word_at, half_at}
use Rattle.scale_base.specs.Service.{served, serves, read_count, write_count}
use Rattle.scale_base.specs.Step.{Outcome, jumps, branches, loads, stores, performs, executes, window_index, port_index, step, pc_after}
use Rattle.scale_base.specs.Word.{Encodes, FieldsInRange, IsSignedField, HasImmRange, IsShift}
use Rattle.scale_base.proofs.Laws.{word_read}
use Rattle.bound_laws.specs.Values.{AreBytes}

abbrev pub IsWord : ℕ → Type 0
IsWord v = v < 2 ^ 32

abbrev pub AreWords : List ℕ → Type 0
AreWords regs = All IsWord regs

pub word_in_reg : (regs : List ℕ) (r : ℕ) → AreWords regs → reg regs r < 2 ^ 32
word_in_reg regs r all = elim (cases_lt r (length regs)) [
  | inl lt ↦ All-get_or IsWord regs r 0 lt all
  | inr past ↦ subst IsWord (sym (get_or-eq_default regs 0 past)) (omega arith)
]

word_put : (regs : List ℕ) (r v : ℕ) → AreWords regs → v < 2 ^ 32 → AreWords (with_reg regs r v)
word_put regs r v all w = cond_both (r == 0) regs (slice_set regs r v) AreWords (λ _. all) (λ _. All-set IsWord regs r v w all)

-- ---- signed numbers

signed_small : (a : ℕ) → mag (signed a) < 2 ^ 31
signed_small a = by (nat_lt a (2 ^ 31)) refl
  where
    by : (p : Bool) → nat_lt a (2 ^ 31) ≡ p → mag (signed a) < 2 ^ 31
    by true e = let l : a < 2 ^ 31 = ltb-true a (2 ^ 31) e in subst (λ z. mag z < 2 ^ 31) (sym (to_z_pos w32 a l)) l
    by false e =
        let l : 2 ^ 31 ≤ a = ltb-false a (2 ^ 31) e in
        let high : signed a ≡ negsuc (2 ^ 32 - suc a) = ap (λ b. sel b (pos a) (negsuc (2 ^ 32 - suc a))) (le-ltb a (2 ^ 31) l) in
        subst (λ z. mag z < 2 ^ 31) (sym high) (let k : 2 ^ 32 - suc a < 2 ^ 31 = omega arith in k)

word_of_small : (z : ℤ) → mag z < 2 ^ 31 → unsigned z < 2 ^ 32
word_of_small (pos n) h = omega arith
word_of_small (negsuc n) h = let k : 2 ^ 32 - suc n < 2 ^ 32 = omega arith in k

negative_word : (n : ℕ) → unsigned (neg_ℤ (pos n)) < 2 ^ 32
negative_word zero = omega arith
negative_word (suc n) = let k : 2 ^ 32 - suc n < 2 ^ 32 = omega arith in k

quotient_word : (x y : ℤ) → mag x < 2 ^ 31 → unsigned (int_div x y) < 2 ^ 32
quotient_word (pos a) (pos b) h = let k = div-le_self a b in omega arith
quotient_word (pos a) (negsuc b) h = negative_word (a / suc b)
quotient_word (negsuc a) (pos b) h = negative_word (suc a / b)
quotient_word (negsuc a) (negsuc b) h = let k = div-le_self (suc a) (suc b) in omega arith

remainder_word : (a b : ℕ) → unsigned (int_rem (signed a) (signed b)) < 2 ^ 32
remainder_word a b = word_of_small (int_rem (signed a) (signed b)) (let p = mag_rem (signed a) (signed b) in let q = signed_small a in omega arith)

lowered_word : (a k : ℕ) → unsigned (int_shr (signed a) k) < 2 ^ 32
lowered_word a k = word_of_small (int_shr (signed a) k) (let p = mag_shr (signed a) (2 ^ k) in let q = signed_small a in omega arith)

negative_double : (n : ℕ) → cast_unsigned w64 (neg_ℤ (pos n)) < 2 ^ 64
negative_double zero = omega arith
negative_double (suc n) = let k : 2 ^ 64 - suc n < 2 ^ 64 = omega arith in k

product_small : (x y : ℤ) → mag x < 2 ^ 31 → mag y < 2 ^ 32 → cast_unsigned w64 (x *ℤ y) < 2 ^ 64
product_small (pos a) (pos b) h k = let p : a * b ≤ 2 ^ 31 * 2 ^ 32 = mul-le-mul (let u : a ≤ 2 ^ 31 = omega arith in u) (let u : b ≤ 2 ^ 32 = omega arith in u) in omega arith
product_small (pos a) (negsuc b) h k = negative_double (a * suc b)
product_small (negsuc a) (pos b) h k = negative_double (suc a * b)
product_small (negsuc a) (negsuc b) h k = let p : suc a * suc b ≤ 2 ^ 31 * 2 ^ 32 = mul-le-mul (let u : suc a ≤ 2 ^ 31 = omega arith in u) (let u : suc b ≤ 2 ^ 32 = omega arith in u) in omega arith

half_word : (n : ℕ) → n < 2 ^ 64 → n / 2 ^ 32 < 2 ^ 32
half_word n h = omega arith

upper_word : (a b : ℕ) → upper_half (signed a *ℤ signed b) < 2 ^ 32
upper_word a b = half_word (cast_unsigned w64 (signed a *ℤ signed b)) (product_small (signed a) (signed b) (signed_small a) (let q = signed_small b in omega arith))

upper_word_by : (a b : ℕ) → b < 2 ^ 32 → upper_half (signed a *ℤ pos b) < 2 ^ 32
upper_word_by a b w = half_word (cast_unsigned w64 (signed a *ℤ pos b)) (product_small (signed a) (pos b) (signed_small a) w)

-- ---- operations

truth_word : (b : Bool) → one_if b < 2 ^ 32
truth_word true = omega arith
truth_word false = omega arith

product_word : (a b : ℕ) → a < 2 ^ 32 → b < 2 ^ 32 → a * b < 2 ^ 64
product_word a b v w = let most : a * b ≤ (2 ^ 32 - 1) * (2 ^ 32 - 1) = mul-le a b (2 ^ 32 - 1) (2 ^ 32 - 1) (omega arith) (omega arith) in omega arith

reg_word : (op : RegOp) (a b : ℕ) → a < 2 ^ 32 → b < 2 ^ 32 → reg_result op a b < 2 ^ 32
reg_word Add a b v w = omega arith
reg_word Sub a b v w = omega arith
reg_word Sll a b v w = omega arith
reg_word Slt a b v w = truth_word (int_lt (signed a) (signed b))
reg_word Sltu a b v w = truth_word (nat_lt a b)
reg_word Xor a b v w = xor_of_32 a b v w
reg_word Srl a b v w = let k = div-le_self a (2 ^ (b % 32)) in omega (arith, k, v)
reg_word Sra a b v w = lowered_word a (b % 32)
reg_word Or a b v w = or_of_32 a b v w
reg_word And a b v w = let k = and_le_l a b in omega (arith, k, v)
reg_word Mul a b v w = omega arith
reg_word Mulh a b v w = upper_word a b
reg_word Mulhsu a b v w = upper_word_by a b w
reg_word Mulhu a b v w = half_word (a * b) (product_word a b v w)
reg_word Div a b v w = cond_both (b == 0) _ _ IsWord (λ _. omega arith) (λ _. quotient_word (signed a) (signed b) (signed_small a))
reg_word Divu a b v w = cond_both (b == 0) _ _ IsWord (λ _. omega arith) (λ _. let k = div-le_self a b in omega (arith, k, v))
reg_word Rem a b v w = cond_both (b == 0) _ _ IsWord (λ _. v) (λ _. remainder_word a b)
reg_word Remu a b v w = cond_both (b == 0) _ _ IsWord (λ _. v) (λ _. let k = mod-le a b in omega (arith, k, v))

field_small : (z : ℤ) → IsSignedField 12 z → mag z < 2 ^ 31
field_small (pos n) h = omega (arith, h)
field_small (negsuc n) h = omega (arith, h)

shift_small : (z : ℤ) → IsShift z → mag z < 2 ^ 31
shift_small (pos n) h = omega (arith, h)
shift_small (negsuc n) h = absurd h

imm_small : (op : ImmOp) (z : ℤ) → HasImmRange op z → mag z < 2 ^ 31
imm_small Addi z h = field_small z h
imm_small Slti z h = field_small z h
imm_small Sltiu z h = field_small z h
imm_small Xori z h = field_small z h
imm_small Ori z h = field_small z h
imm_small Andi z h = field_small z h
imm_small Slli z h = shift_small z h
imm_small Srli z h = shift_small z h
imm_small Srai z h = shift_small z h

-- ---- loads

half_small : (x y : ℕ) → x < 256 → y < 256 → x + y * 2 ^ 8 < 65536
half_small x y a b = omega (arith, a, b)

four_small : (x y z u : ℕ) → x < 256 → y < 256 → z < 256 → u < 256 → x + y * 2 ^ 8 + z * 2 ^ 16 + u * 2 ^ 24 < 2 ^ 32
four_small x y z u a b c d = omega (arith, a, b, c, d)

byte_word : (n : ℕ) → n < 256 → unsigned (cast_signed w8 n) < 2 ^ 32
byte_word n h = by (nat_lt n 128) refl
  where
    by : (p : Bool) → nat_lt n 128 ≡ p → unsigned (cast_signed w8 n) < 2 ^ 32
    by true e = let l : n < 128 = ltb-true n 128 e in subst (λ z. unsigned z < 2 ^ 32) (sym (to_z_pos w8 n l)) (omega arith)
    by false e =
        let o : cast_signed w8 n ≡ negsuc (256 - suc n) = ap (λ b. sel b (pos n) (negsuc (256 - suc n))) e in
        subst (λ z. unsigned z < 2 ^ 32) (sym o) (let k : 2 ^ 32 - suc (256 - suc n) < 2 ^ 32 = omega arith in k)

half_word_too : (n : ℕ) → n < 65536 → unsigned (cast_signed w16 n) < 2 ^ 32
half_word_too n h = by (nat_lt n 32768) refl
  where
    by : (p : Bool) → nat_lt n 32768 ≡ p → unsigned (cast_signed w16 n) < 2 ^ 32
    by true e = let l : n < 32768 = ltb-true n 32768 e in subst (λ z. unsigned z < 2 ^ 32) (sym (to_z_pos w16 n l)) (omega arith)
    by false e =
        let o : cast_signed w16 n ≡ negsuc (65536 - suc n) = ap (λ b. sel b (pos n) (negsuc (65536 - suc n))) e in
        subst (λ z. unsigned z < 2 ^ 32) (sym o) (let k : 2 ^ 32 - suc (65536 - suc n) < 2 ^ 32 = omega arith in k)

load_word : (op : LoadOp) (bytes : ℕ → ℕ) (at : ℕ) → AreBytes bytes → loaded op bytes at < 2 ^ 32
load_word Lb bytes at b = byte_word (bytes at) (b at)
load_word Lh bytes at b = half_word_too (half_at bytes at) (half_small (bytes at) (bytes (at + 1)) (b at) (b (at + 1)))
load_word Lw bytes at b = four_small (bytes at) (bytes (at + 1)) (bytes (at + 2)) (bytes (at + 3)) (b at) (b (at + 1)) (b (at + 2)) (b (at + 3))
load_word Lbu bytes at b = let p = b at in omega (arith, p)
load_word Lhu bytes at b = let p = half_small (bytes at) (bytes (at + 1)) (b at) (b (at + 1)) in omega (arith, p)

pub fetched_small : (bytes : ℕ → ℕ) (at : ℕ) → AreBytes bytes → word_at bytes at < 2 ^ 32
fetched_small bytes at b = load_word Lw bytes at b

-- ---- a step

module _ (env : Setting) where
  abbrev Keeps : Outcome → Type 0
  Keeps o = AreWords o.state.regs

  loads_words : (s : State) (i : Instr) (op : LoadOp) (rd at : ℕ) → is_keyed env.layout s.pc ≡ false → AreBytes s.bytes → AreWords s.regs → Keeps (loads env s i op rd at)
  loads_words s i op rd at off b w =
      cond_both (not (at % load_width op == 0)) _ _ Keeps (λ _. w)
      (λ _. cond_both (uses_window env.layout s.pc at (load_width op)) _ _ Keeps
      (λ on. absurd (never (is_keyed env.layout s.pc) (load_width op == 4) at off on))
      (λ _. cond_both (can_read env.layout s.pc at (load_width op)) _ _ Keeps (λ _. word_put s.regs rd (loaded op s.bytes at) w (load_word op s.bytes at b)) (λ _. w)))
    where
      never : (a c : Bool) (at : ℕ) → a ≡ false → (a && c && in_window at) ≡ true → ⊥
      never true c at e h = let bad : ⊥ = cc in bad
      never false c at e h = let bad : ⊥ = cc in bad

  stores_words : (s : State) (i : Instr) (op : StoreOp) (at value : ℕ) → AreWords s.regs → Keeps (stores env s i op at value)
  stores_words s i op at value w =
      cond_both (not (at % store_width op == 0)) _ _ Keeps (λ _. w)
      (λ _. cond_both (uses_window env.layout s.pc at (store_width op)) _ _ Keeps
      (λ _. cond_both (not (window_index at == port_index)) _ _ Keeps (λ _. w)
      (λ _. cond_both (nat_lt value env.levels) _ _ Keeps (λ _. w) (λ _. w)))
      (λ _. cond_both (can_write env.layout at (store_width op)) _ _ Keeps (λ _. w) (λ _. w)))

  served_words : (s : State) → AreWords s.regs → AreWords (served env s).regs
  unfolding served
  served_words s w =
      let P : State → Type 0 = λ t. AreWords t.regs in
      cond_both (reg s.regs 17 == 63) _ _ P
      (λ _. cond_both (not (reg s.regs 10 == 0)) _ _ P (λ _. word_put s.regs 10 (2 ^ 32 - 9) w (omega arith))
      (λ _. cond_both (not (serves (may_write env.layout) (reg s.regs 11) (read_count env s))) _ _ P (λ _. word_put s.regs 10 (2 ^ 32 - 14) w (omega arith))
      (λ _. word_put s.regs 10 (read_count env s) w (omega arith))))
      (λ _. cond_both (reg s.regs 17 == 64) _ _ P
      (λ _. cond_both (not (reg s.regs 10 == 1)) _ _ P (λ _. word_put s.regs 10 (2 ^ 32 - 9) w (omega arith))
      (λ _. cond_both (not (serves (reads_byte env.layout s.pc) (reg s.regs 11) (write_count s))) _ _ P (λ _. word_put s.regs 10 (2 ^ 32 - 14) w (omega arith))
      (λ _. word_put s.regs 10 (write_count s) w (omega arith))))
      (λ _. word_put s.regs 10 (2 ^ 32 - 38) w (omega arith)))

  jumps_words : (s : State) (i : Instr) (rd target : ℕ) → AreWords s.regs → Keeps (jumps env s i rd target)
  jumps_words s i rd target w = cond_both (target % 4 == 0) _ _ Keeps (λ _. word_put s.regs rd (pc_after s) w (omega arith)) (λ _. w)

  branches_words : (s : State) (i : Instr) (taken : Bool) (target : ℕ) → AreWords s.regs → Keeps (branches env s i taken target)
  branches_words s i taken target w = cond_both taken _ _ Keeps (λ _. cond_both (target % 4 == 0) _ _ Keeps (λ _. w) (λ _. w)) (λ _. w)

  performs_words : (s : State) (i j : Instr) → FieldsInRange j → is_keyed env.layout s.pc ≡ false → AreBytes s.bytes → AreWords s.regs → Keeps (performs env s i j)
  performs_words s i (Lui rd imm) f off b w = word_put s.regs rd imm w f.1
  performs_words s i (Auipc rd imm) f off b w = word_put s.regs rd (plus s.pc imm) w (omega arith)
  performs_words s i (Jal rd offset) f off b w = jumps_words s i rd _ w
  performs_words s i (Jalr rd rs1 offset) f off b w = jumps_words s i rd _ w
  performs_words s i (Branch op rs1 rs2 offset) f off b w = branches_words s i (is_taken op (reg s.regs rs1) (reg s.regs rs2)) (moved_by s.pc offset) w
  performs_words s i (Load op rd rs1 offset) f off b w = loads_words s i op rd _ off b w
  performs_words s i (Store op rs1 rs2 offset) f off b w = stores_words s i op _ _ w
  performs_words s i (Imm op rd rs1 imm) f off b w =
      word_put s.regs rd (imm_result op (reg s.regs rs1) imm) w (reg_word (reg_op_for op) (reg s.regs rs1) (unsigned imm) (word_in_reg s.regs rs1 w) (word_of_small imm (imm_small op imm f.2)))
  performs_words s i (Reg op rd rs1 rs2) f off b w =
      word_put s.regs rd (reg_result op (reg s.regs rs1) (reg s.regs rs2)) w (reg_word op (reg s.regs rs1) (reg s.regs rs2) (word_in_reg s.regs rs1 w) (word_in_reg s.regs rs2 w))
  performs_words s i (Fence rd rs1 imm) f off b w = w
  performs_words s i Ecall f off b w = cond_both ((reg s.regs 17 == 93) || (reg s.regs 17 == 94)) _ _ Keeps (λ _. w) (λ _. served_words s w)
  performs_words s i Ebreak f off b w = w

  executes_words : (s : State) (word : ℕ) (o : Option Instr) → IfSome o (Encodes word) → is_keyed env.layout s.pc ≡ false → AreBytes s.bytes → AreWords s.regs → Keeps (executes env s o)
  executes_words s word None f off b w = w
  executes_words s word (Some i) f off b w = performs_words s i i f.0 off b w

  pub step_words : (s : State) → is_keyed env.layout s.pc ≡ false → AreBytes s.bytes → AreWords s.regs → AreWords (step env s).state.regs
  unfolding step
  step_words s off b w = cond_both (can_fetch env.layout s.pc) _ _ Keeps
      (λ _. executes_words s (word_at s.bytes s.pc) (instr_of (word_at s.bytes s.pc)) (word_read (word_at s.bytes s.pc) (fetched_small s.bytes s.pc b)) off b w) (λ _. w)
