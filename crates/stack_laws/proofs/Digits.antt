-- A number that is divided and its count are so behind an instruction, where its edge is covered, and so is what follows for intervals.
use Rattle.std.proofs.Common.{◌≡◌, ℕ, ◌+◌, ◌-◌, ◌*◌, ◌/◌, ◌<◌, ◌≤◌, ◌%◌, ◌^◌, ⊎_elim, Bool, true, false, List, length, refl, sym, ap, ◌∙◌, subst, arith, Option, Some, None}
use Rattle.std.specs.Prelude.{ℤ, pos, ◌==◌, nat_lt, ◌*ℤ◌, int_div, is_some, if◌then◌else◌}
use Rattle.std.specs.Int.{int_shr, w32}
use Rattle.std.proofs.lemmas.Bool.{cond_both, ltb-true, ltb-false, eqb-true}
use Rattle.std.proofs.lemmas.Int.{to_z_pos}
use Rattle.std.proofs.lemmas.Nat.{pow_pos, pow-add}
use Rattle.std.proofs.Math.Nat.{div-mul-le_self, lt_of_mul-lt-mul_left, lt_of_mul-lt-mul_right, mul-le-mul_left, mul-le-mul_right, mul-lt-mul_of_pos_right, mul_assoc, mul_comm, mul-add}
use Rattle.std.proofs.Math.Pow.{pow_mono}
use Rattle.scale_base.specs.declared.instruction.ImmOp.{ImmOp}
use Rattle.scale_base.specs.declared.instruction.ImmOp.TheVariants.{Addi, Srli, Srai}
use Rattle.scale_base.specs.declared.instruction.RegOp.{RegOp}
use Rattle.scale_base.specs.declared.instruction.RegOp.TheVariants.{Add, Sub, Mulh, Mulhu, Div, Divu}
use Rattle.scale_base.specs.declared.instruction.Instr.{Instr}
use Rattle.scale_base.specs.declared.instruction.Instr.TheVariants.{Imm, Reg}
use Rattle.scale_base.specs.Arith.{plus, signed, unsigned, upper_half, imm_result, reg_result}
use Rattle.scale_base.specs.State.{reg}
use Rattle.bound_laws.specs.Registers.{keeps}
use Rattle.bound_laws.specs.Values.{Arc, IsIn, IsHeld, arc, held, least, least_of, top_of, meet_of, passed, Covers, IsRegister, Values}
use Rattle.bound_laws.proofs.Laws.{below_top, held_of, in_covers, meet_of_in, word_of}
use Rattle.stack_laws.specs.Digits.{Dwindling, IsDwindling, IsLow, IsZero, IsShort, IsLess, IsCounted, IsDwindlingBy, IsDwindlingBehind, IsLimitedBy}
use Rattle.stack_laws.specs.Digits.IsLess.{left, copied, shifted, shifted_low, divided, divided_low, multiplied, multiplied_by, multiplied_low, multiplied_by_low, added, added_to, subtracted}
use Rattle.stack_laws.specs.Digits.IsCounted.{left as left_count, raised}
use Rattle.stack_laws.specs.Digits.IsDwindlingBy.{known, handed}

-- ---- powers of two

-- a number that is no more than another one less so many bits, and a count that is at most so much more
grown : (u n w m bits lost more below further : ℕ) → u * 2 ^ lost ≤ w → n ≤ m + more → w * 2 ^ (bits * m) < 2 ^ below → below + bits * more ≤ further + lost → u * 2 ^ (bits * n) < 2 ^ further
grown u n w m bits lost more below further less few is room =
    let p : 2 ^ lost * 2 ^ (bits * n) ≡ 2 ^ (bits * n) * 2 ^ lost = mul_comm (2 ^ lost) (2 ^ (bits * n)) in
    let q : u * 2 ^ (bits * n) * 2 ^ lost ≡ u * 2 ^ lost * 2 ^ (bits * n) = mul_assoc u (2 ^ (bits * n)) (2 ^ lost) ∙ (ap (λ k. u * k) (sym p) ∙ sym (mul_assoc u (2 ^ lost) (2 ^ (bits * n)))) in
    let first : u * 2 ^ lost * 2 ^ (bits * n) ≤ w * 2 ^ (bits * n) = mul-le-mul_right (2 ^ (bits * n)) less in
    let count : bits * n ≤ bits * (m + more) = mul-le-mul_left bits few in
    let counts : bits * (m + more) ≡ bits * m + bits * more = mul-add bits m more in
    let second : w * 2 ^ (bits * n) ≤ w * 2 ^ (bits * m + bits * more) = mul-le-mul_left w (pow_mono (subst (λ k. bits * n ≤ k) counts count)) in
    let both : w * 2 ^ (bits * m + bits * more) ≡ w * 2 ^ (bits * m) * 2 ^ (bits * more) = ap (λ k. w * k) (pow-add 2 (bits * m) (bits * more)) ∙ sym (mul_assoc w (2 ^ (bits * m)) (2 ^ (bits * more))) in
    let third : w * 2 ^ (bits * m) * 2 ^ (bits * more) < 2 ^ below * 2 ^ (bits * more) = mul-lt-mul_of_pos_right is (pow_pos (bits * more)) in
    let sum : 2 ^ (below + bits * more) ≡ 2 ^ below * 2 ^ (bits * more) = pow-add 2 below (bits * more) in
    let fourth : 2 ^ (below + bits * more) ≤ 2 ^ (further + lost) = pow_mono room in
    let end : 2 ^ (further + lost) ≡ 2 ^ further * 2 ^ lost = pow-add 2 further lost in
    let all : u * 2 ^ (bits * n) * 2 ^ lost < 2 ^ further * 2 ^ lost = omega arith in
    lt_of_mul-lt-mul_right (2 ^ lost) all

-- a number and a count that are no more than so much
small : (u n k m bits below : ℕ) → u < 2 ^ k → n ≤ m → k + bits * m ≤ below → u * 2 ^ (bits * n) < 2 ^ below
small u n k m bits below less few room =
    let first : u * 2 ^ (bits * n) < 2 ^ k * 2 ^ (bits * n) = mul-lt-mul_of_pos_right less (pow_pos (bits * n)) in
    let sum : 2 ^ (k + bits * n) ≡ 2 ^ k * 2 ^ (bits * n) = pow-add 2 k (bits * n) in
    let count : bits * n ≤ bits * m = mul-le-mul_left bits few in
    let second : 2 ^ (k + bits * n) ≤ 2 ^ below = pow_mono (let r : k + bits * n ≤ below = omega arith in r) in
    omega arith

less_power : (n m : ℕ) → 2 ^ n < 2 ^ m → n < m
less_power n m h = by (nat_lt n m) refl
  where
    by : (b : Bool) → nat_lt n m ≡ b → n < m
    by true e = ltb-true n m e
    by false e = let more : 2 ^ m ≤ 2 ^ n = pow_mono (ltb-false n m e) in absurd (let bad : ⊥ = omega arith in bad)

-- how far a number counts that is at least so many bits long
limited : (u n k bits below most : ℕ) → 2 ^ k ≤ u → u * 2 ^ (bits * n) < 2 ^ below → below ≤ k + bits * (most + 1) → n ≤ most
limited u n k bits below most least is enough =
    let first : 2 ^ k * 2 ^ (bits * n) ≤ u * 2 ^ (bits * n) = mul-le-mul_right (2 ^ (bits * n)) least in
    let sum : 2 ^ (k + bits * n) ≡ 2 ^ k * 2 ^ (bits * n) = pow-add 2 k (bits * n) in
    let fewer : k + bits * n < below = less_power (k + bits * n) below (let r : 2 ^ (k + bits * n) < 2 ^ below = omega arith in r) in
    let times : bits * n < bits * (most + 1) = omega arith in
    let few : n < most + 1 = lt_of_mul-lt-mul_left bits times in
    omega arith

-- ---- what instructions leave of a number

none_lost : (u w lost : ℕ) → u ≤ w → lost ≡ 0 → u * 2 ^ lost ≤ w
none_lost u w lost h e = subst (λ k. u * 2 ^ k ≤ w) (sym e) (let r : u * 1 ≤ w = omega arith in r)

copied_less : (n m : ℕ) → m ≡ 0 → plus n m ≤ n
copied_less n m e = let f = e in omega arith

shifted_less : (n m lost : ℕ) → m ≡ lost → lost < 32 → n / 2 ^ (m % 32) * 2 ^ lost ≤ n
shifted_less n m lost e few = let f : m % 32 ≡ lost = omega arith in subst (λ k. n / 2 ^ k * 2 ^ lost ≤ n) (sym f) (div-mul-le_self n (2 ^ lost))

quotient_less : (n d lost : ℕ) → 2 ^ lost ≤ d → n / d * 2 ^ lost ≤ n
quotient_less n d lost h =
    let p : n / d * 2 ^ lost ≤ n / d * d = mul-le-mul_left (n / d) h in
    let q : n / d * d ≤ n = div-mul-le_self n d in
    omega arith

-- whatever a division by 0 gives
divided_less : (n d other lost : ℕ) → 2 ^ lost ≤ d → (if d == 0 then other else n / d) * 2 ^ lost ≤ n
divided_less n d other lost h = cond_both (d == 0) other (n / d) (λ k. k * 2 ^ lost ≤ n)
    (λ z. let e : d ≡ 0 = eqb-true d 0 z in let some : 0 < 2 ^ lost = pow_pos lost in absurd (let bad : ⊥ = omega arith in bad))
    (λ _. quotient_less n d lost h)

low_division : (n d : ℕ) → n < 2 ^ 31 → d < 2 ^ 31 → unsigned (int_div (signed n) (signed d)) ≡ n / d
low_division n d x y = ap (λ z. unsigned (int_div z (signed d))) (to_z_pos w32 n x) ∙ ap (λ z. unsigned (int_div (pos n) z)) (to_z_pos w32 d y)

-- the high word of a product with a short number
upper_less : (n m lost : ℕ) → m * 2 ^ lost ≤ 2 ^ 32 → n * m / 2 ^ 32 * 2 ^ lost ≤ n
upper_less n m lost short =
    let q : ℕ = n * m / 2 ^ 32 in
    let first : q * 2 ^ 32 * 2 ^ lost ≤ n * m * 2 ^ lost = mul-le-mul_right (2 ^ lost) (div-mul-le_self (n * m) (2 ^ 32)) in
    let order : q * 2 ^ 32 * 2 ^ lost ≡ q * 2 ^ lost * 2 ^ 32 = mul_assoc q (2 ^ 32) (2 ^ lost) ∙ (ap (λ k. q * k) (mul_comm (2 ^ 32) (2 ^ lost)) ∙ sym (mul_assoc q (2 ^ lost) (2 ^ 32))) in
    let second : n * m * 2 ^ lost ≤ n * 2 ^ 32 = subst (λ k. k ≤ n * 2 ^ 32) (sym (mul_assoc n m (2 ^ lost))) (mul-le-mul_left n short) in
    cancelled (q * 2 ^ lost) n (let r : q * 2 ^ lost * 2 ^ 32 ≤ n * 2 ^ 32 = omega arith in r)
  where
    cancelled : (k n : ℕ) → k * 2 ^ 32 ≤ n * 2 ^ 32 → k ≤ n
    cancelled k n h = omega arith

low_product : (n m : ℕ) → n < 2 ^ 31 → m < 2 ^ 31 → upper_half (signed n *ℤ signed m) ≡ n * m / 2 ^ 32
low_product n m x y = ap (λ z. upper_half (z *ℤ signed m)) (to_z_pos w32 n x) ∙ ap (λ z. upper_half (pos n *ℤ z)) (to_z_pos w32 m y)

low_shift : (n k : ℕ) → n < 2 ^ 31 → unsigned (int_shr (signed n) k) ≡ n / 2 ^ k
low_shift n k x = ap (λ z. unsigned (int_shr z k)) (to_z_pos w32 n x)

sum_less : (n m : ℕ) → m ≤ 0 → plus n m ≤ n
sum_less n m none = omega arith

other_sum_less : (n m : ℕ) → m ≤ 0 → plus m n ≤ n
other_sum_less n m none = omega arith

difference_less : (n m : ℕ) → m ≤ 0 → (n + (2 ^ 32 - m)) % 2 ^ 32 ≤ n
difference_less n m none = omega arith

-- ---- the ends of intervals

from_least : (j : Option Arc) (n : ℕ) → IsHeld j n → least_of j ≤ n
from_least None n h = omega arith
from_least (Some j) n h = cond_both (nat_lt (j.low + j.more) (2 ^ 32)) _ _ (λ k. k ≤ n)
    (λ e. over j.low j.more n h.start h.word h.near (ltb-true (j.low + j.more) (2 ^ 32) e))
    (λ _. omega arith)
  where
    over : (low more n : ℕ) → low < 2 ^ 32 → n < 2 ^ 32 → (n + (2 ^ 32 - low)) % 2 ^ 32 ≤ more → low + more < 2 ^ 32 → low ≤ n
    over low more n a b c d = omega arith

to_top : (j : Option Arc) (n : ℕ) → is_some j ≡ true → IsHeld j n → n ≤ top_of j
to_top None n some h = let bad : ⊥ = cc in absurd bad
to_top (Some j) n some h = below_top j n h

from_zero : (n most : ℕ) → n < 2 ^ 32 → n ≤ most → IsIn (arc 0 most) n
from_zero n most a b = record { word = a; start = omega arith; near = near n most a b; step = ((n + (2 ^ 32 - 0)) % 2 ^ 32, let r : (n + (2 ^ 32 - 0)) % 2 ^ 32 ≡ 1 * ((n + (2 ^ 32 - 0)) % 2 ^ 32) = omega arith in r) }
  where
    near : (n most : ℕ) → n < 2 ^ 32 → n ≤ most → (n + (2 ^ 32 - 0)) % 2 ^ 32 ≤ most
    near n most a b = omega arith

-- ---- over an edge

module _ (v : Values) (dwindling : ℕ → Option Dwindling) (a b : ℕ) (i : Instr) (before after : List ℕ)
    (kept : (r : ℕ) → keeps r i ≡ true → reg after r ≡ reg before r)
    (holds : (r : ℕ) → IsRegister r → IsHeld (passed i a b (v.at a) r) (reg after r))
    (numbers : (op : ImmOp) (r rs : ℕ) (imm : ℤ) → IsRegister r → i ≡ Imm op r rs imm → reg after r ≡ imm_result op (reg before rs) imm)
    (results : (op : RegOp) (r rs1 rs2 : ℕ) → IsRegister r → i ≡ Reg op r rs1 rs2 → reg after r ≡ reg_result op (reg before rs1) (reg before rs2))
    (zero_before : reg before 0 ≡ 0) (size_before : length before ≡ 32) (zero_after : reg after 0 ≡ 0) (size_after : length after ≡ 32)
    (are : (r : ℕ) → IsRegister r → IsHeld (v.at a r) (reg before r)) (dwindles : (j : ℕ) → IsDwindling (dwindling j) before) where
  has : (r : ℕ) → IsHeld (held (v.at a) r) (reg before r)
  has r = held_of (v.at a) before zero_before size_before are r

  low : (r : ℕ) → IsLow v a r → reg before r < 2 ^ 31
  low r x = let most : reg before r ≤ top_of (held (v.at a) r) = to_top (held (v.at a) r) (reg before r) x.0 (has r) in let top : top_of (held (v.at a) r) < 2 ^ 31 = x.1 in omega arith

  nothing : (r : ℕ) → IsZero v a r → reg before r ≤ 0
  nothing r x = subst (λ k. reg before r ≤ k) x.1 (to_top (held (v.at a) r) (reg before r) x.0 (has r))

  shorter : (r lost : ℕ) → IsShort v a r lost → reg before r * 2 ^ lost ≤ 2 ^ 32
  shorter r lost x =
      let most : reg before r * 2 ^ lost ≤ top_of (held (v.at a) r) * 2 ^ lost = mul-le-mul_right (2 ^ lost) (to_top (held (v.at a) r) (reg before r) x.0 (has r)) in
      let top : top_of (held (v.at a) r) * 2 ^ lost ≤ 2 ^ 32 = x.1 in
      omega arith

  far : (r lost : ℕ) → 2 ^ lost ≤ least_of (held (v.at a) r) → 2 ^ lost ≤ reg before r
  far r lost h = let least : least_of (held (v.at a) r) ≤ reg before r = from_least (held (v.at a) r) (reg before r) (has r) in omega arith

  less : (z y : Dwindling) (lost : ℕ) → IsRegister y.value → IsLess v i a z y lost → reg after y.value * 2 ^ lost ≤ reg before z.value
  less z y lost is (left keep e none) =
      let same : reg after y.value ≡ reg before z.value = kept y.value keep ∙ ap (reg before) (sym e) in
      none_lost (reg after y.value) (reg before z.value) lost (let r : reg after y.value ≤ reg before z.value = omega arith in r) none
  less z y lost is (copied imm e zero none) =
      none_lost (reg after y.value) (reg before z.value) lost
      (subst (λ k. k ≤ reg before z.value) (sym (numbers Addi y.value z.value imm is e)) (copied_less (reg before z.value) (unsigned imm) zero)) none
  less z y lost is (shifted imm e by few) =
      subst (λ k. k * 2 ^ lost ≤ reg before z.value) (sym (numbers Srli y.value z.value imm is e)) (shifted_less (reg before z.value) (unsigned imm) lost by few)
  less z y lost is (shifted_low imm e by few one) =
      subst (λ k. k * 2 ^ lost ≤ reg before z.value) (sym (numbers Srai y.value z.value imm is e ∙ low_shift (reg before z.value) (unsigned imm % 32) (low z.value one)))
      (shifted_less (reg before z.value) (unsigned imm) lost by few)
  less z y lost is (divided d e least) =
      subst (λ k. k * 2 ^ lost ≤ reg before z.value) (sym (results Divu y.value z.value d is e))
      (divided_less (reg before z.value) (reg before d) (2 ^ 32 - 1) lost (far d lost least))
  less z y lost is (divided_low d e one two least) =
      let quotient : unsigned (int_div (signed (reg before z.value)) (signed (reg before d))) ≡ reg before z.value / reg before d =
      low_division (reg before z.value) (reg before d) (low z.value one) (low d two) in
      subst (λ k. k * 2 ^ lost ≤ reg before z.value) (sym (results Div y.value z.value d is e))
      (subst (λ k. (if reg before d == 0 then 2 ^ 32 - 1 else k) * 2 ^ lost ≤ reg before z.value) (sym quotient)
      (divided_less (reg before z.value) (reg before d) (2 ^ 32 - 1) lost (far d lost least)))
  less z y lost is (multiplied other e short) =
      subst (λ k. k * 2 ^ lost ≤ reg before z.value) (sym (results Mulhu y.value z.value other is e)) (upper_less (reg before z.value) (reg before other) lost (shorter other lost short))
  less z y lost is (multiplied_by other e short) =
      subst (λ k. k * 2 ^ lost ≤ reg before z.value) (ap (λ k. k / 2 ^ 32) (mul_comm (reg before z.value) (reg before other)) ∙ sym (results Mulhu y.value other z.value is e))
      (upper_less (reg before z.value) (reg before other) lost (shorter other lost short))
  less z y lost is (multiplied_low other e one two short) =
      subst (λ k. k * 2 ^ lost ≤ reg before z.value) (sym (results Mulh y.value z.value other is e ∙ low_product (reg before z.value) (reg before other) (low z.value one) (low other two)))
      (upper_less (reg before z.value) (reg before other) lost (shorter other lost short))
  less z y lost is (multiplied_by_low other e one two short) =
      subst (λ k. k * 2 ^ lost ≤ reg before z.value)
      (ap (λ k. k / 2 ^ 32) (mul_comm (reg before z.value) (reg before other)) ∙ sym (results Mulh y.value other z.value is e ∙ low_product (reg before other) (reg before z.value) (low other two) (low z.value one)))
      (upper_less (reg before z.value) (reg before other) lost (shorter other lost short))
  less z y lost is (added other e nought gone) =
      none_lost (reg after y.value) (reg before z.value) lost
      (subst (λ k. k ≤ reg before z.value) (sym (results Add y.value z.value other is e)) (sum_less (reg before z.value) (reg before other) (nothing other nought))) gone
  less z y lost is (added_to other e nought gone) =
      none_lost (reg after y.value) (reg before z.value) lost
      (subst (λ k. k ≤ reg before z.value) (sym (results Add y.value other z.value is e)) (other_sum_less (reg before z.value) (reg before other) (nothing other nought))) gone
  less z y lost is (subtracted other e nought gone) =
      none_lost (reg after y.value) (reg before z.value) lost
      (subst (λ k. k ≤ reg before z.value) (sym (results Sub y.value z.value other is e)) (difference_less (reg before z.value) (reg before other) (nothing other nought))) gone

  counted : (z y : Dwindling) (more : ℕ) → IsRegister y.count → IsCounted v i a z y more → reg after y.count ≤ reg before z.count + more
  counted z y more is (left_count keep e none) =
      let same : reg after y.count ≡ reg before z.count = kept y.count keep ∙ ap (reg before) (sym e) in omega arith
  counted z y more is (raised imm e by) =
      let sum : reg after y.count ≡ plus (reg before z.count) (unsigned imm) = numbers Addi y.count z.count imm is e in
      let f : unsigned imm ≡ more = by in omega arith

  dwindling_at : (o : Option Dwindling) (z : Dwindling) → o ≡ Some z → IsDwindling o before → reg before z.value * 2 ^ (z.bits * reg before z.count) < 2 ^ z.below
  dwindling_at o z e h = subst (λ k. IsDwindling k before) e h

  dwindling_by : (y : Dwindling) → IsRegister y.value → IsRegister y.count → IsDwindlingBy v dwindling i a b y → reg after y.value * 2 ^ (y.bits * reg after y.count) < 2 ^ y.below
  dwindling_by y value count (known bits some some_count few room) =
      let most : reg after y.value ≤ top_of (passed i a b (v.at a) y.value) = to_top (passed i a b (v.at a) y.value) (reg after y.value) some (holds y.value value) in
      small (reg after y.value) (reg after y.count) bits (top_of (passed i a b (v.at a) y.count)) y.bits y.below (let r : reg after y.value < 2 ^ bits = omega arith in r)
      (to_top (passed i a b (v.at a) y.count) (reg after y.count) some_count (holds y.count count)) room
  dwindling_by y value count (handed j z lost more e bits lower higher room) =
      let was : reg before z.value * 2 ^ (z.bits * reg before z.count) < 2 ^ z.below = dwindling_at (dwindling j) z e (dwindles j) in
      grown (reg after y.value) (reg after y.count) (reg before z.value) (reg before z.count) y.bits lost more z.below y.below (less z y lost value lower) (counted z y more count higher)
      (subst (λ k. reg before z.value * 2 ^ (k * reg before z.count) < 2 ^ z.below) bits was) room

  pub dwindling_behind : (o : Option Dwindling) → IsDwindlingBehind v dwindling i a b o → IsDwindling o after
  dwindling_behind None x = tt
  dwindling_behind (Some y) x = dwindling_by y x.value x.count x.reason

  pub limited_by : (r : ℕ) → IsRegister r → IsLimitedBy v dwindling i a b r → IsHeld (v.at b r) (reg after r)
  limited_by r is x =
      let y : Dwindling = x.pair in
      let was : reg before y.value * 2 ^ (y.bits * reg before y.count) < 2 ^ y.below = dwindling_at (dwindling x.number) y x.pair_is (dwindles x.number) in
      let number : least_of (held (passed i a b (v.at a)) y.value) ≤ reg after y.value = from_least (held (passed i a b (v.at a)) y.value) (reg after y.value) (held_of (passed i a b (v.at a)) after zero_after size_after holds y.value) in
      let same : reg after y.value ≡ reg before y.value = kept y.value x.value_left in
      let long : 2 ^ x.bits ≤ least_of (held (passed i a b (v.at a)) y.value) = x.least in
      let now : reg before r ≤ x.most = limited (reg before y.value) (reg before r) x.bits y.bits y.below x.most (let q : 2 ^ x.bits ≤ reg before y.value = omega arith in q)
      (subst (λ k. reg before y.value * 2 ^ (y.bits * reg before k) < 2 ^ y.below) x.count was) x.enough in
      let word : reg before r < 2 ^ 32 = word_of (held (v.at a) r) (reg before r) x.known (has r) in
      let here : IsIn (arc 0 x.most) (reg after r) = subst (IsIn (arc 0 x.most)) (sym (kept r x.count_left)) (from_zero (reg before r) x.most word now) in
      ⊎_elim
      (λ (c : Covers (v.at b r) (Some (arc 0 x.most))). in_covers (Some (arc 0 x.most)) (v.at b r) (reg after r) here c)
      (λ (c : Covers (v.at b r) (meet_of (Some (arc 0 x.most)) (passed i a b (v.at a) r))). in_covers (meet_of (Some (arc 0 x.most)) (passed i a b (v.at a) r)) (v.at b r) (reg after r) (meet_of_in (Some (arc 0 x.most)) (passed i a b (v.at a) r) (reg after r) here (holds r is)) c)
      x.covers
