-- What registers tell of others is so behind an instruction, where its edge is covered, and so is what follows for intervals.
use Rattle.std.proofs.Common.{◌≡◌, ◌≢◌, ℕ, zero, suc, ◌+◌, ◌-◌, ◌<◌, ◌≤◌, ◌%◌, ◌^◌, ⊎_elim, Bool, true, false, List, length, refl, sym, ap, ◌∙◌, subst, arith, Option, Some, None}
use Rattle.std.specs.Prelude.{ℤ, ◌==◌, not, nat_lt, int_lt, bit_and, bit_or, bit_xor}
use Rattle.std.specs.Int.Bits.{and_zero_l, and_zero_r, xor_assoc, xor_self, xor_zero_l, xor_zero_r}
use Rattle.std.proofs.lemmas.Nat.{le_or_l, le_or_r}
use Rattle.std.proofs.lemmas.Bool.{not-false, ltb-true, ltb-false, eqb-true, eqb-false}
use Rattle.scale_base.specs.declared.instruction.BranchOp.{BranchOp}
use Rattle.scale_base.specs.declared.instruction.BranchOp.TheVariants.{Beq, Bne, Blt, Bge, Bltu, Bgeu}
use Rattle.scale_base.specs.declared.instruction.ImmOp.{ImmOp}
use Rattle.scale_base.specs.declared.instruction.ImmOp.TheVariants.{Addi, Slti, Sltiu, Xori, Ori, Andi, Slli, Srli, Srai}
use Rattle.scale_base.specs.declared.instruction.RegOp.{RegOp}
use Rattle.scale_base.specs.declared.instruction.RegOp.TheVariants.{Add, Sub, Sll, Slt, Sltu, Xor, Srl, Sra, Or, And, Mul, Mulh, Mulhsu, Mulhu, Div, Divu, Rem, Remu}
use Rattle.scale_base.specs.declared.instruction.Instr.{Instr}
use Rattle.scale_base.specs.declared.instruction.Instr.TheVariants.{Imm, Reg}
use Rattle.scale_base.specs.Arith.{plus, unsigned, signed, one_if, is_taken, imm_result, reg_result}
use Rattle.scale_base.specs.State.{reg}
use Rattle.bound_laws.specs.Registers.{keeps}
use Rattle.bound_laws.specs.Values.{Arc, IsIn, IsHeld, arc, exactly, ahead, held, sum_with, meet_of, opposite, opposite_of, first_by, second_by, passed, Covers, IsRegister, Values}
use Rattle.bound_laws.proofs.Laws.{first_in, held_of, in_covers, in_exactly, meet_of_in, only_one, second_in, sum_with_in, word_of}
use Rattle.stack_laws.specs.Telling.{Told, IsSo, AreSo, IsTelling, imm_test, reg_test, compared_with, test_where, IsCompared, IsHanded, IsCarried, IsToldBy, IsToldBehind, IsToldTo}
use Rattle.stack_laws.specs.Telling.IsCompared.{with_number, first, second}
use Rattle.stack_laws.specs.Telling.IsHanded.{left, copied, is_not_zero, is_zero, turned, masked, both_first, both_second, either_first, either_second}
use Rattle.stack_laws.specs.Telling.IsCarried.{left as left_about, summed}
use Rattle.stack_laws.specs.Telling.IsToldBy.{known, never, compared, handed}

-- ---- what the intervals of two registers and a comparison of them say

-- of words that compare so
first_told : (op : BranchOp) (i j : Option Arc) (x y : ℕ) → IsHeld i x → IsHeld j y → (x < 2 ^ 32 → y < 2 ^ 32 → is_taken op x y ≡ true) → IsHeld (first_by op i j) x
first_told op None j x y a b h = tt
first_told op (Some i) None x y a b h = a
first_told op (Some i) (Some j) x y a b h = first_in op (Some i) (Some j) x y a b (h a.word b.word)

second_told : (op : BranchOp) (i j : Option Arc) (x y : ℕ) → IsHeld i x → IsHeld j y → (x < 2 ^ 32 → y < 2 ^ 32 → is_taken op x y ≡ true) → IsHeld (second_by op i j) y
second_told op None None x y a b h = tt
second_told op (Some i) None x y a b h = tt
second_told op None (Some j) x y a b h = b
second_told op (Some i) (Some j) x y a b h = second_in op (Some i) (Some j) x y a b (h a.word b.word)

opposite_so : (test : BranchOp) (x y : ℕ) → is_taken test x y ≡ false → is_taken (opposite test) x y ≡ true
opposite_so Beq x y h = ap not h
opposite_so Bne x y h = not-false (x == y) h
opposite_so Blt x y h = ap not h
opposite_so Bge x y h = not-false (int_lt (signed x) (signed y)) h
opposite_so Bltu x y h = ap not h
opposite_so Bgeu x y h = not-false (nat_lt x y) h

-- what is written is 0 or not, by the comparison
written_so : (b kind : Bool) → IsSo kind (one_if b) → b ≡ not kind
written_so true true h = let bad : ⊥ = cc in absurd bad
written_so true false h = refl
written_so false true h = refl
written_so false false h = absurd (h refl)

where_so : (test : BranchOp) (kind : Bool) (x y : ℕ) → is_taken test x y ≡ not kind → is_taken (test_where kind test) x y ≡ true
where_so test true x y h = opposite_so test x y h
where_so test false x y h = h

test_so : (test : BranchOp) (kind : Bool) (x y : ℕ) → IsSo kind (one_if (is_taken test x y)) → is_taken (test_where kind test) x y ≡ true
test_so test kind x y so = where_so test kind x y (written_so (is_taken test x y) kind so)

-- what is 0 where two numbers are the same, and there alone
differ_so : (kind : Bool) (x y n : ℕ) → (n ≡ 0 → x ≡ y) → (x ≡ y → n ≡ 0) → IsSo kind n → is_taken (test_where kind Bne) x y ≡ true
differ_so true x y n same none h = by (x == y) refl
  where
    by : (b : Bool) → (x == y) ≡ b → (x == y) ≡ true
    by true e = e
    by false e = absurd (eqb-false x y e (same h))
differ_so false x y n same none h = by (x == y) refl
  where
    by : (b : Bool) → (x == y) ≡ b → not (x == y) ≡ true
    by true e = absurd (h (none (eqb-true x y e)))
    by false e = ap not e

minus_same : (x y : ℕ) → x < 2 ^ 32 → y < 2 ^ 32 → (x + (2 ^ 32 - y)) % 2 ^ 32 ≡ 0 → x ≡ y
minus_same x y a b h = omega arith

minus_none : (x y : ℕ) → x < 2 ^ 32 → y < 2 ^ 32 → x ≡ y → (x + (2 ^ 32 - y)) % 2 ^ 32 ≡ 0
minus_none x y a b h = omega arith

plus_same : (x n : ℕ) → x < 2 ^ 32 → plus x n ≡ 0 → x ≡ opposite_of n
plus_same x n a h = omega arith

plus_none : (x n : ℕ) → x ≡ opposite_of n → plus x n ≡ 0
plus_none x n h = omega arith

xor_same : (x y : ℕ) → bit_xor x y ≡ 0 → x ≡ y
xor_same x y h = sym (xor_zero_r x) ∙ ap (bit_xor x) (sym (xor_self y)) ∙ sym (xor_assoc x y y) ∙ ap (λ k. bit_xor k y) h ∙ xor_zero_l y

xor_none : (x y : ℕ) → x ≡ y → bit_xor x y ≡ 0
xor_none x y h = ap (λ k. bit_xor k y) h ∙ xor_self y

of_test : (test is : BranchOp) (kind : Bool) (x y : ℕ) → Some is ≡ Some test → is_taken (test_where kind is) x y ≡ true → is_taken (test_where kind test) x y ≡ true
of_test test is kind x y e h = let q : is ≡ test = cc in subst (λ t. is_taken (test_where kind t) x y ≡ true) q h

result_so : (op : RegOp) (test : BranchOp) (kind : Bool) (x y : ℕ) → reg_test op ≡ Some test → IsSo kind (reg_result op x y) → x < 2 ^ 32 → y < 2 ^ 32 → is_taken (test_where kind test) x y ≡ true
result_so Slt test kind x y e so a b = of_test test Blt kind x y e (test_so Blt kind x y so)
result_so Sltu test kind x y e so a b = of_test test Bltu kind x y e (test_so Bltu kind x y so)
result_so Sub test kind x y e so a b = of_test test Bne kind x y e (differ_so kind x y (reg_result Sub x y) (minus_same x y a b) (minus_none x y a b) so)
result_so Xor test kind x y e so a b = of_test test Bne kind x y e (differ_so kind x y (bit_xor x y) (xor_same x y) (xor_none x y) so)
result_so Add test kind x y e so a b = let bad : ⊥ = cc in absurd bad
result_so Sll test kind x y e so a b = let bad : ⊥ = cc in absurd bad
result_so Srl test kind x y e so a b = let bad : ⊥ = cc in absurd bad
result_so Sra test kind x y e so a b = let bad : ⊥ = cc in absurd bad
result_so Or test kind x y e so a b = let bad : ⊥ = cc in absurd bad
result_so And test kind x y e so a b = let bad : ⊥ = cc in absurd bad
result_so Mul test kind x y e so a b = let bad : ⊥ = cc in absurd bad
result_so Mulh test kind x y e so a b = let bad : ⊥ = cc in absurd bad
result_so Mulhsu test kind x y e so a b = let bad : ⊥ = cc in absurd bad
result_so Mulhu test kind x y e so a b = let bad : ⊥ = cc in absurd bad
result_so Div test kind x y e so a b = let bad : ⊥ = cc in absurd bad
result_so Divu test kind x y e so a b = let bad : ⊥ = cc in absurd bad
result_so Rem test kind x y e so a b = let bad : ⊥ = cc in absurd bad
result_so Remu test kind x y e so a b = let bad : ⊥ = cc in absurd bad

number_so : (op : ImmOp) (test : BranchOp) (kind : Bool) (x : ℕ) (imm : ℤ) → imm_test op ≡ Some test → IsSo kind (imm_result op x imm) → x < 2 ^ 32 → compared_with op (unsigned imm) < 2 ^ 32 → is_taken (test_where kind test) x (compared_with op (unsigned imm)) ≡ true
number_so Slti test kind x imm e so a b = result_so Slt test kind x (unsigned imm) e so a b
number_so Sltiu test kind x imm e so a b = result_so Sltu test kind x (unsigned imm) e so a b
number_so Addi test kind x imm e so a b = of_test test Bne kind x (opposite_of (unsigned imm)) e (differ_so kind x (opposite_of (unsigned imm)) (plus x (unsigned imm)) (plus_same x (unsigned imm) a) (plus_none x (unsigned imm)) so)
number_so Xori test kind x imm e so a b = result_so Xor test kind x (unsigned imm) e so a b
number_so Ori test kind x imm e so a b = let bad : ⊥ = cc in absurd bad
number_so Andi test kind x imm e so a b = let bad : ⊥ = cc in absurd bad
number_so Slli test kind x imm e so a b = let bad : ⊥ = cc in absurd bad
number_so Srli test kind x imm e so a b = let bad : ⊥ = cc in absurd bad
number_so Srai test kind x imm e so a b = let bad : ⊥ = cc in absurd bad

-- ---- what an interval says of 0

are_so : (kind : Bool) (i : Option Arc) (n : ℕ) → IsHeld i n → AreSo kind i → IsSo kind n
are_so true None n h so = absurd so
are_so false None n h so = absurd so
are_so true (Some i) n h so = only_one i n h so.1 ∙ so.0
are_so false (Some i) n h so = λ e. let near : ahead i.low 0 ≤ i.more = subst (λ m. ahead i.low m ≤ i.more) e h.near in let less = so in let bad : ⊥ = omega arith in bad

not_both : (kind : Bool) (n : ℕ) → IsSo kind n → IsSo (not kind) n → ⊥
not_both true n a b = b a
not_both false n a b = a b

-- ---- what instructions hand on

copied_so : (kind : Bool) (n m : ℕ) → n < 2 ^ 32 → m ≡ 0 → IsSo kind (plus n m) → IsSo kind n
copied_so true n m small none h = let e = none in omega arith
copied_so false n m small none h = λ e. h (let f = none in let r : plus n m ≡ 0 = omega arith in r)

not_zero_so : (kind : Bool) (n m : ℕ) → m ≡ 0 → IsSo kind (one_if (nat_lt m n)) → IsSo kind n
not_zero_so true n m none h = by (nat_lt m n) refl h
  where
    by : (b : Bool) → nat_lt m n ≡ b → IsSo true (one_if b) → n ≡ 0
    by true e h = let bad : ⊥ = cc in absurd bad
    by false e h = let le : n ≤ m = ltb-false m n e in let f = none in omega arith
not_zero_so false n m none h = by (nat_lt m n) refl h
  where
    by : (b : Bool) → nat_lt m n ≡ b → IsSo false (one_if b) → n ≢ 0
    by true e h = λ f. let lt : m < n = ltb-true m n e in let bad : ⊥ = omega arith in bad
    by false e h = absurd (h refl)

is_zero_so : (kind : Bool) (n m : ℕ) → m ≡ 1 → IsSo kind (one_if (nat_lt n m)) → IsSo (not kind) n
is_zero_so true n m one h = by (nat_lt n m) refl h
  where
    by : (b : Bool) → nat_lt n m ≡ b → IsSo true (one_if b) → n ≢ 0
    by true e h = let bad : ⊥ = cc in absurd bad
    by false e h = λ f. let le : m ≤ n = ltb-false n m e in let g = one in let bad : ⊥ = omega arith in bad
is_zero_so false n m one h = by (nat_lt n m) refl h
  where
    by : (b : Bool) → nat_lt n m ≡ b → IsSo false (one_if b) → n ≡ 0
    by true e h = let lt : n < m = ltb-true n m e in let f = one in omega arith
    by false e h = absurd (h refl)

turned_so : (kind : Bool) (n m : ℕ) → n ≤ 1 → m ≡ 1 → IsSo kind (bit_xor n m) → IsSo (not kind) n
turned_so b zero m small one h = by b (subst (λ k. IsSo b k) one h)
  where
    by : (b : Bool) → IsSo b 1 → IsSo (not b) 0
    by true h = let bad : ⊥ = cc in absurd bad
    by false h = refl
turned_so b (suc zero) m small one h = by b (subst (λ k. IsSo b (bit_xor 1 k)) one h)
  where
    by : (b : Bool) → IsSo b (bit_xor 1 1) → IsSo (not b) 1
    by true h = λ e. let bad : ⊥ = cc in bad
    by false h = absurd (h refl)
turned_so b (suc (suc n)) m small one h = let bad : ⊥ = omega arith in absurd bad

truth_small : (i : Option Arc) (n : ℕ) → IsHeld i n → Covers (Some (arc 0 1)) i → n ≤ 1
truth_small i n h c =
    let x : IsIn (arc 0 1) n = in_covers i (Some (arc 0 1)) n h c in
    near n x.word x.near
  where
    near : (n : ℕ) → n < 2 ^ 32 → (n + (2 ^ 32 - 0)) % 2 ^ 32 ≤ 1 → n ≤ 1
    near n a b = omega arith

and_first : (n m : ℕ) → bit_and n m ≢ 0 → n ≢ 0
and_first n m h e = h (ap (λ k. bit_and k m) e ∙ and_zero_l m)

and_second : (n m : ℕ) → bit_and n m ≢ 0 → m ≢ 0
and_second n m h e = h (ap (bit_and n) e ∙ and_zero_r n)

or_first : (n m : ℕ) → bit_or n m ≡ 0 → n ≡ 0
or_first n m h = let le : n ≤ bit_or n m = le_or_l n m in omega arith

or_second : (n m : ℕ) → bit_or n m ≡ 0 → m ≡ 0
or_second n m h = let le : m ≤ bit_or n m = le_or_r n m in omega arith

module _ (v : Values) (told : ℕ → Option Told) (a b : ℕ) (i : Instr) (before after : List ℕ)
    (kept : (r : ℕ) → keeps r i ≡ true → reg after r ≡ reg before r)
    (holds : (r : ℕ) → IsRegister r → IsHeld (passed i a b (v.at a) r) (reg after r))
    (numbers : (op : ImmOp) (r rs : ℕ) (imm : ℤ) → IsRegister r → i ≡ Imm op r rs imm → reg after r ≡ imm_result op (reg before rs) imm)
    (results : (op : RegOp) (r rs1 rs2 : ℕ) → IsRegister r → i ≡ Reg op r rs1 rs2 → reg after r ≡ reg_result op (reg before rs1) (reg before rs2))
    (zero_before : reg before 0 ≡ 0) (size_before : length before ≡ 32) (zero_after : reg after 0 ≡ 0) (size_after : length after ≡ 32)
    (are : (r : ℕ) → IsRegister r → IsHeld (v.at a r) (reg before r)) (tells : (j : ℕ) → IsTelling (told j) before) where
  has : (r : ℕ) → IsHeld (held (v.at a) r) (reg before r)
  has r = held_of (v.at a) before zero_before size_before are r

  abbrev Before : Told → Type 0
  Before y = IsSo y.zero (reg before y.teller)

  abbrev After : Told → Type 0
  After y = IsSo y.zero (reg after y.teller)

  compared_in : (y : Told) → IsRegister y.teller → IsCompared v i a y → After y → IsIn y.arc (reg before y.about)
  compared_in y is (with_number op test imm e t c) so =
      let n : ℕ = compared_with op (unsigned imm) in
      let w : IsSo y.zero (imm_result op (reg before y.about) imm) = subst (IsSo y.zero) (numbers op y.teller y.about imm is e) so in
      in_covers (first_by (test_where y.zero test) (held (v.at a) y.about) (exactly n)) (Some y.arc) (reg before y.about)
      (first_told (test_where y.zero test) (held (v.at a) y.about) (exactly n) (reg before y.about) n (has y.about) (in_exactly n) (number_so op test y.zero (reg before y.about) imm t w)) c
  compared_in y is (first op test other e t c) so =
      let w : IsSo y.zero (reg_result op (reg before y.about) (reg before other)) = subst (IsSo y.zero) (results op y.teller y.about other is e) so in
      in_covers (first_by (test_where y.zero test) (held (v.at a) y.about) (held (v.at a) other)) (Some y.arc) (reg before y.about)
      (first_told (test_where y.zero test) (held (v.at a) y.about) (held (v.at a) other) (reg before y.about) (reg before other) (has y.about) (has other) (result_so op test y.zero (reg before y.about) (reg before other) t w)) c
  compared_in y is (second op test other e t c) so =
      let w : IsSo y.zero (reg_result op (reg before other) (reg before y.about)) = subst (IsSo y.zero) (results op y.teller other y.about is e) so in
      in_covers (second_by (test_where y.zero test) (held (v.at a) other) (held (v.at a) y.about)) (Some y.arc) (reg before y.about)
      (second_told (test_where y.zero test) (held (v.at a) other) (held (v.at a) y.about) (reg before other) (reg before y.about) (has other) (has y.about) (result_so op test y.zero (reg before other) (reg before y.about) t w)) c

  -- of the same kind, and of the other one
  same_kind : (z y : Told) (n : ℕ) → z.zero ≡ y.zero → IsSo y.zero n → IsSo z.zero n
  same_kind z y n e h = subst (λ k. IsSo k n) (sym e) h

  other_kind : (z y : Told) (n : ℕ) → z.zero ≡ not y.zero → IsSo (not y.zero) n → IsSo z.zero n
  other_kind z y n e h = subst (λ k. IsSo k n) (sym e) h

  of_kind : (kind : Bool) (y : Told) (n m : ℕ) → y.zero ≡ kind → n ≡ m → IsSo y.zero n → IsSo kind m
  of_kind kind y n m e is h = subst (IsSo kind) is (subst (λ k. IsSo k n) e h)

  handed_so : (z y : Told) → IsRegister y.teller → IsHanded v i a z y → After y → Before z
  handed_so z y is (left keep e k) so = same_kind z y (reg before z.teller) k (subst (IsSo y.zero) (kept y.teller keep ∙ ap (reg before) (sym e)) so)
  handed_so z y is (copied imm e none some k) so =
      same_kind z y (reg before z.teller) k
      (copied_so y.zero (reg before z.teller) (unsigned imm) (word_of (held (v.at a) z.teller) (reg before z.teller) some (has z.teller)) none
      (subst (IsSo y.zero) (numbers Addi y.teller z.teller imm is e) so))
  handed_so z y is (is_not_zero e k) so =
      same_kind z y (reg before z.teller) k (not_zero_so y.zero (reg before z.teller) (reg before 0) zero_before (subst (IsSo y.zero) (results Sltu y.teller 0 z.teller is e) so))
  handed_so z y is (is_zero imm e one k) so =
      other_kind z y (reg before z.teller) k (is_zero_so y.zero (reg before z.teller) (unsigned imm) one (subst (IsSo y.zero) (numbers Sltiu y.teller z.teller imm is e) so))
  handed_so z y is (turned imm e one c k) so =
      other_kind z y (reg before z.teller) k
      (turned_so y.zero (reg before z.teller) (unsigned imm) (truth_small (held (v.at a) z.teller) (reg before z.teller) (has z.teller) c) one
      (subst (IsSo y.zero) (numbers Xori y.teller z.teller imm is e) so))
  handed_so z y is (masked imm e p q) so =
      subst (λ k. IsSo k (reg before z.teller)) (sym p)
      (and_first (reg before z.teller) (unsigned imm) (of_kind false y (reg after y.teller) (bit_and (reg before z.teller) (unsigned imm)) q (numbers Andi y.teller z.teller imm is e) so))
  handed_so z y is (both_first other e p q) so =
      subst (λ k. IsSo k (reg before z.teller)) (sym p)
      (and_first (reg before z.teller) (reg before other) (of_kind false y (reg after y.teller) (bit_and (reg before z.teller) (reg before other)) q (results And y.teller z.teller other is e) so))
  handed_so z y is (both_second other e p q) so =
      subst (λ k. IsSo k (reg before z.teller)) (sym p)
      (and_second (reg before other) (reg before z.teller) (of_kind false y (reg after y.teller) (bit_and (reg before other) (reg before z.teller)) q (results And y.teller other z.teller is e) so))
  handed_so z y is (either_first other e p q) so =
      subst (λ k. IsSo k (reg before z.teller)) (sym p)
      (or_first (reg before z.teller) (reg before other) (of_kind true y (reg after y.teller) (bit_or (reg before z.teller) (reg before other)) q (results Or y.teller z.teller other is e) so))
  handed_so z y is (either_second other e p q) so =
      subst (λ k. IsSo k (reg before z.teller)) (sym p)
      (or_second (reg before other) (reg before z.teller) (of_kind true y (reg after y.teller) (bit_or (reg before other) (reg before z.teller)) q (results Or y.teller other z.teller is e) so))

  carried_in : (z y : Told) → IsRegister y.about → IsCarried i z y → IsIn z.arc (reg before z.about) → IsIn y.arc (reg after y.about)
  carried_in z y is (left_about keep e c) h =
      in_covers (Some z.arc) (Some y.arc) (reg after y.about) (subst (IsIn z.arc) (ap (reg before) e ∙ sym (kept y.about keep)) h) c
  carried_in z y is (summed imm e c) h =
      in_covers (sum_with (Some z.arc) (unsigned imm)) (Some y.arc) (reg after y.about)
      (subst (IsHeld (sum_with (Some z.arc) (unsigned imm))) (sym (numbers Addi y.about z.about imm is e)) (sum_with_in (Some z.arc) (unsigned imm) (reg before z.about) h)) c

  told_at : (o : Option Told) (z : Told) → o ≡ Some z → IsTelling o before → Before z → IsIn z.arc (reg before z.about)
  told_at o z e h = subst (λ k. IsTelling k before) e h

  told_by : (y : Told) → IsRegister y.teller → IsRegister y.about → IsToldBy v told i a b y → After y → IsIn y.arc (reg after y.about)
  told_by y teller about (known c) so = in_covers (passed i a b (v.at a) y.about) (Some y.arc) (reg after y.about) (holds y.about about) c
  told_by y teller about (never n) so = absurd (not_both y.zero (reg after y.teller) so (are_so (not y.zero) (passed i a b (v.at a) y.teller) (reg after y.teller) (holds y.teller teller) n))
  told_by y teller about (compared keep c) so = subst (IsIn y.arc) (sym (kept y.about keep)) (compared_in y teller c so)
  told_by y teller about (handed j z e h c) so = carried_in z y about c (told_at (told j) z e (tells j) (handed_so z y teller h so))

  pub told_behind : (o : Option Told) → IsToldBehind v told i a b o → IsTelling o after
  told_behind None x = tt
  told_behind (Some y) x = λ so. told_by y x.teller x.about x.reason so

  pub told_to : (r : ℕ) → IsRegister r → IsToldTo v told i a b r → IsHeld (v.at b r) (reg after r)
  told_to r is x =
      let y : Told = x.telling in
      let teller : IsSo y.zero (reg after y.teller) = are_so y.zero (held (passed i a b (v.at a)) y.teller) (reg after y.teller) (held_of (passed i a b (v.at a)) after zero_after size_after holds y.teller) x.so in
      let was : IsIn y.arc (reg before y.about) = told_at (told x.number) y x.telling_is (tells x.number) (subst (IsSo y.zero) (kept y.teller x.teller_left) teller) in
      let now : IsIn y.arc (reg after r) = subst (IsIn y.arc) (ap (reg before) x.about ∙ sym (kept r x.about_left)) was in
      ⊎_elim
      (λ (c : Covers (v.at b r) (Some y.arc)). in_covers (Some y.arc) (v.at b r) (reg after r) now c)
      (λ (c : Covers (v.at b r) (meet_of (Some y.arc) (passed i a b (v.at a) r))). in_covers (meet_of (Some y.arc) (passed i a b (v.at a) r)) (v.at b r) (reg after r) (meet_of_in (Some y.arc) (passed i a b (v.at a) r) (reg after r) now (holds r is)) c)
      x.covers
