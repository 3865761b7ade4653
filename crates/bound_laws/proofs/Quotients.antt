-- Intervals of products, quotients, remainders and shifts hold them, and so do those of unions of bits.
use Rattle.std.proofs.Common.{◌≡◌, ℕ, ◌+◌, ◌-◌, ◌*◌, ◌/◌, ◌<◌, ◌≤◌, ◌%◌, ◌^◌, true, sym, ap, ◌∙◌, subst, arith, Option, Some, None}
use Rattle.std.specs.Prelude.{pos, ◌*ℤ◌, ◌==◌, nat_lt, min, max, int_div, int_rem, bit_or, bit_xor, if◌then◌else◌}
use Rattle.std.specs.Int.{int_shr}
use Rattle.std.proofs.lemmas.Bool.{cond_both, and_parts, ltb-true, eqb-true, eqb-false}
use Rattle.std.proofs.lemmas.Nat.{le-div, pow_pos, mul-le, le_or_l, le_or_r, or_of_32, xor_of_32}
use Rattle.std.proofs.Math.Nat.{zero-mul, div-le_self, div-mul-le_self, mul-le-mul_left, mul_comm, mod-le, mod-lt, mod-eq_of_lt}
use Rattle.std.proofs.Math.Pow.{pow_mono}
use lib.Bits.{or_add_and, xor_add_and}
use Rattle.scale_base.specs.Arith.{upper_half, signed, unsigned}
use Rattle.bound_laws.specs.Values.{Arc, IsMultiple, IsIn, IsHeld, ahead, arc, word, exactly, least, least_of, top, top_of, top_sum, from_to, sum_with, scaled, product_of, upper_product_of, quotient_of, remainder_of, are_low, signed_quotient_of, signed_remainder_of, signed_upper_product_of, power_of, biased, lowered_by, lowered_of, united_of, parted_of}
use Rattle.bound_laws.proofs.Arcs.{in_arc, in_word, in_low, in_exactly, sum_with_in, below_top, over, only_one, scaled_in, small_one, all_multiples}
use Rattle.bound_laws.proofs.Signed.{upper_word, low_one, divided_word, remainder_word, lowered_word, lowered_is}

-- ---- the ends of intervals

above_least : (i : Arc) (a : ℕ) → IsIn i a → least i ≤ a
above_least i a x = cond_both (nat_lt (i.low + i.more) (2 ^ 32)) _ _ (λ n. n ≤ a)
    (λ h. over i.low i.more a x.start x.word x.near (ltb-true (i.low + i.more) (2 ^ 32) h))
    (λ _. omega arith)

above_least_of : (j : Option Arc) (b : ℕ) → IsHeld j b → least_of j ≤ b
above_least_of None b y = omega arith
above_least_of (Some j) b y = above_least j b y

-- where something is known of a number's least
below_top_of : (j : Option Arc) (b : ℕ) → IsHeld j b → 0 < least_of j → b ≤ top_of j
below_top_of None b y some = absurd (omega arith)
below_top_of (Some j) b y some = below_top j b y

ahead_from : (from to v : ℕ) → v < 2 ^ 32 → from ≤ v → v ≤ to → (v + (2 ^ 32 - from)) % 2 ^ 32 ≤ to - from
ahead_from from to v a b c = omega arith

ahead_none : (from to v : ℕ) → v < 2 ^ 32 → from ≤ v → v ≤ to → from ≡ to → (v + (2 ^ 32 - from)) % 2 ^ 32 ≡ 0
ahead_none from to v a b c e = omega arith

from_to_in : (from to v : ℕ) → v < 2 ^ 32 → from ≤ v → v ≤ to → IsHeld (from_to from to) v
from_to_in from to v w a b = record {
  word = w;
  start = omega arith;
  near = ahead_from from to v w a b;
  step = cond_both (from == to) 0 1 (λ n. IsMultiple n (ahead from v))
      (λ h. (0, ahead_none from to v w a b (eqb-true from to h) ∙ sym (zero-mul 0))) (λ _. all_multiples (ahead from v));
}

-- ---- products

product_word : (a b : ℕ) → a * b % 2 ^ 32 < 2 ^ 32
product_word a b = omega arith

pub product_in : (i j : Option Arc) (a b : ℕ) → IsHeld i a → IsHeld j b → IsHeld (product_of i j) (a * b % 2 ^ 32)
product_in None j a b x y = in_word (a * b % 2 ^ 32) (product_word a b)
product_in (Some i) None a b x y = in_word (a * b % 2 ^ 32) (product_word a b)
product_in (Some i) (Some j) a b x y =
    let P : Option Arc → Type 0 = λ k. IsHeld k (a * b % 2 ^ 32) in
    cond_both (j.more == 0) _ _ P
    (λ h. let e : b ≡ j.low = only_one j b y (eqb-true j.more 0 h) in
    subst (λ n. IsHeld (scaled j.low (Some i)) n) (ap (λ n. n % 2 ^ 32) (mul_comm j.low a ∙ ap (λ n. a * n) (sym e))) (scaled_in j.low (Some i) a x))
    (λ _. cond_both (i.more == 0) _ _ P
    (λ h. let e : a ≡ i.low = only_one i a x (eqb-true i.more 0 h) in
    subst (λ n. IsHeld (scaled i.low (Some j)) n) (ap (λ n. n * b % 2 ^ 32) (sym e)) (scaled_in i.low (Some j) b y))
    (λ _. cond_both (nat_lt (top i * top j) (2 ^ 32)) _ _ P
    (λ h.
    let fits : top i * top j < 2 ^ 32 = ltb-true (top i * top j) (2 ^ 32) h in
    let low : least i * least j ≤ a * b = mul-le (least i) (least j) a b (above_least i a x) (above_least j b y) in
    let high : a * b ≤ top i * top j = mul-le a b (top i) (top j) (below_top i a x) (below_top j b y) in
    let small : a * b < 2 ^ 32 = omega arith in
    subst (λ n. IsHeld (from_to (least i * least j) (top i * top j)) n) (sym (small_one (a * b) small)) (from_to_in (least i * least j) (top i * top j) (a * b) small low high))
    (λ _. in_word (a * b % 2 ^ 32) (product_word a b))))

upper_order : (n m : ℕ) → n ≤ m → n / 2 ^ 32 ≤ m / 2 ^ 32
upper_order n m h = omega arith

upper_small : (n : ℕ) → n ≤ 2 ^ 32 * 2 ^ 32 - 2 ^ 32 → n / 2 ^ 32 < 2 ^ 32
upper_small n h = omega arith

pub upper_product_in : (i j : Option Arc) (a b : ℕ) → IsHeld i a → IsHeld j b → IsHeld (upper_product_of i j) (a * b / 2 ^ 32)
upper_product_in None j a b x y = tt
upper_product_in (Some i) None a b x y = tt
upper_product_in (Some i) (Some j) a b x y =
    let low : least i * least j ≤ a * b = mul-le (least i) (least j) a b (above_least i a x) (above_least j b y) in
    let high : a * b ≤ top i * top j = mul-le a b (top i) (top j) (below_top i a x) (below_top j b y) in
    let p = x.word in
    let q = y.word in
    let most : a * b ≤ (2 ^ 32 - 1) * (2 ^ 32 - 1) = mul-le a b (2 ^ 32 - 1) (2 ^ 32 - 1) (omega arith) (omega arith) in
    from_to_in (least i * least j / 2 ^ 32) (top i * top j / 2 ^ 32) (a * b / 2 ^ 32) (upper_small (a * b) (omega arith)) (upper_order (least i * least j) (a * b) low) (upper_order (a * b) (top i * top j) high)

-- ---- quotients

quotients_order : (a b n m : ℕ) → 0 < n → a ≤ b → n ≤ m → a / m ≤ b / n
quotients_order a b n m some h k =
    let p : a / m * n ≤ a / m * m = mul-le-mul_left (a / m) k in
    let q : a / m * m ≤ a = div-mul-le_self a m in
    le-div (a / m) b n some (omega arith)

pub quotient_in : (i j : Option Arc) (a b : ℕ) → 0 < b → IsHeld i a → IsHeld j b → IsHeld (quotient_of i j) (a / b)
quotient_in None j a b positive x y = tt
quotient_in (Some i) j a b positive x y =
    let w = x.word in
    let fewer = div-le_self a b in
    let small : a / b < 2 ^ 32 = omega arith in
    cond_both (nat_lt 0 (least_of j)) _ _ (λ k. IsHeld k (a / b))
    (λ h. let some : 0 < least_of j = ltb-true 0 (least_of j) h in
    from_to_in (least i / top_of j) (top i / least_of j) (a / b) small
    (quotients_order (least i) a b (top_of j) positive (above_least i a x) (below_top_of j b y some))
    (quotients_order a (top i) (least_of j) b some (below_top i a x) (above_least_of j b y)))
    (λ _. in_word (a / b) small)

-- with what a machine gives for a division by 0
pub divided_in : (i j : Option Arc) (a b : ℕ) → IsHeld i a → IsHeld j b → IsHeld (quotient_of i j) (if b == 0 then 2 ^ 32 - 1 else a / b)
divided_in i j a b x y = cond_both (b == 0) (2 ^ 32 - 1) (a / b) (λ v. IsHeld (quotient_of i j) v)
    (λ z. by_none i (eqb-true b 0 z))
    (λ n. quotient_in i j a b (positive b (eqb-false b 0 n)) x y)
  where
    positive : (b : ℕ) → (b ≡ 0 → ⊥) → 0 < b
    positive b h = omega arith

    by_none : (i : Option Arc) → b ≡ 0 → IsHeld (quotient_of i j) (2 ^ 32 - 1)
    by_none None z = tt
    by_none (Some k) z = cond_both (nat_lt 0 (least_of j)) _ _ (λ q. IsHeld q (2 ^ 32 - 1))
        (λ h. let some : 0 < least_of j = ltb-true 0 (least_of j) h in let few = above_least_of j b y in absurd (omega arith))
        (λ _. in_word (2 ^ 32 - 1) (omega arith))

-- ---- remainders

rest_in : (i j : Option Arc) (a b r : ℕ) → IsHeld i a → IsHeld j b → r ≤ a → (0 < b → r < b) → (a < b → r ≡ a) → IsHeld (remainder_of i j) r
rest_in None j a b r x y most below same = tt
rest_in (Some i) j a b r x y most below same =
    let P : Option Arc → Type 0 = λ k. IsHeld k r in
    let w = x.word in
    let t = below_top i a x in
    let l = above_least_of j b y in
    cond_both (nat_lt (top i) (least_of j)) _ _ P
    (λ h. let far : top i < least_of j = ltb-true (top i) (least_of j) h in subst (λ n. IsIn i n) (sym (same (omega arith))) x)
    (λ _. cond_both (nat_lt 0 (least_of j)) _ _ P
    (λ h.
    let some : 0 < least_of j = ltb-true 0 (least_of j) h in
    let less : r < b = below (omega arith) in
    let u = below_top_of j b y some in
    in_low r (min (top i) (top_of j - 1)) (omega arith) (omega arith))
    (λ _. in_low r (top i) (omega arith) (omega arith)))

-- with what a machine gives for a division by 0
pub remainder_in : (i j : Option Arc) (a b : ℕ) → IsHeld i a → IsHeld j b → IsHeld (remainder_of i j) (if b == 0 then a else a % b)
remainder_in i j a b x y = cond_both (b == 0) a (a % b) (λ v. IsHeld (remainder_of i j) v)
    (λ z. let e : b ≡ 0 = eqb-true b 0 z in rest_in i j a b a x y (omega arith) (λ some. absurd (let k : 0 < b = some in omega arith)) (λ less. absurd (let k : a < b = less in omega arith)))
    (λ n. rest_in i j a b (a % b) x y (mod-le a b) (λ some. mod-lt a some) (λ less. mod-eq_of_lt less))

-- ---- signed ones

low_of : (j : Arc) (b : ℕ) → IsIn j b → top j < 2 ^ 31 → b < 2 ^ 31
low_of j b y low = let t = below_top j b y in omega arith

both_low : (i j : Arc) (a b : ℕ) → are_low i j ≡ true → IsIn i a → IsIn j b → (a < 2 ^ 31) × (b < 2 ^ 31)
both_low i j a b h x y =
    let p = and_parts (nat_lt (top i) (2 ^ 31)) (nat_lt (top j) (2 ^ 31)) h in
    (low_of i a x (ltb-true (top i) (2 ^ 31) p.0), low_of j b y (ltb-true (top j) (2 ^ 31) p.1))

signed_division : (a b : ℕ) → a < 2 ^ 31 → b < 2 ^ 31 → unsigned (int_div (signed a) (signed b)) ≡ a / b
signed_division a b x y = ap (λ z. unsigned (int_div z (signed b))) (low_one a x) ∙ ap (λ z. unsigned (int_div (pos a) z)) (low_one b y)

signed_rest : (a b : ℕ) → a < 2 ^ 31 → b < 2 ^ 31 → unsigned (int_rem (signed a) (signed b)) ≡ a % b
signed_rest a b x y = ap (λ z. unsigned (int_rem z (signed b))) (low_one a x) ∙ ap (λ z. unsigned (int_rem (pos a) z)) (low_one b y)

signed_upper : (a b : ℕ) → a < 2 ^ 31 → b < 2 ^ 31 → upper_half (signed a *ℤ signed b) ≡ a * b / 2 ^ 32
signed_upper a b x y = ap (λ z. upper_half (z *ℤ signed b)) (low_one a x) ∙ ap (λ z. upper_half (pos a *ℤ z)) (low_one b y)

pub signed_upper_product_in : (i j : Option Arc) (a b : ℕ) → IsHeld i a → IsHeld j b → IsHeld (signed_upper_product_of i j) (upper_half (signed a *ℤ signed b))
signed_upper_product_in None j a b x y = in_word (upper_half (signed a *ℤ signed b)) (upper_word a b)
signed_upper_product_in (Some i) None a b x y = in_word (upper_half (signed a *ℤ signed b)) (upper_word a b)
signed_upper_product_in (Some i) (Some j) a b x y = cond_both (are_low i j) _ _ (λ k. IsHeld k (upper_half (signed a *ℤ signed b)))
    (λ h. let l = both_low i j a b h x y in
    subst (λ n. IsHeld (upper_product_of (Some i) (Some j)) n) (sym (signed_upper a b l.0 l.1)) (upper_product_in (Some i) (Some j) a b x y))
    (λ _. in_word (upper_half (signed a *ℤ signed b)) (upper_word a b))

quotient_any : (a b : ℕ) → IsHeld word (if b == 0 then 2 ^ 32 - 1 else unsigned (int_div (signed a) (signed b)))
quotient_any a b = cond_both (b == 0) (2 ^ 32 - 1) (unsigned (int_div (signed a) (signed b))) (λ v. IsHeld word v)
    (λ _. in_word (2 ^ 32 - 1) (omega arith)) (λ _. in_word (unsigned (int_div (signed a) (signed b))) (divided_word a b))

pub signed_quotient_in : (i j : Option Arc) (a b : ℕ) → IsHeld i a → IsHeld j b → IsHeld (signed_quotient_of i j) (if b == 0 then 2 ^ 32 - 1 else unsigned (int_div (signed a) (signed b)))
signed_quotient_in None j a b x y = quotient_any a b
signed_quotient_in (Some i) None a b x y = quotient_any a b
signed_quotient_in (Some i) (Some j) a b x y = cond_both (are_low i j) _ _ (λ k. IsHeld k (if b == 0 then 2 ^ 32 - 1 else unsigned (int_div (signed a) (signed b))))
    (λ h. let l = both_low i j a b h x y in
    subst (λ n. IsHeld (quotient_of (Some i) (Some j)) (if b == 0 then 2 ^ 32 - 1 else n)) (sym (signed_division a b l.0 l.1)) (divided_in (Some i) (Some j) a b x y))
    (λ _. quotient_any a b)

rest_any : (a b : ℕ) → a < 2 ^ 32 → IsHeld word (if b == 0 then a else unsigned (int_rem (signed a) (signed b)))
rest_any a b w = cond_both (b == 0) a (unsigned (int_rem (signed a) (signed b))) (λ v. IsHeld word v)
    (λ _. in_word a w) (λ _. in_word (unsigned (int_rem (signed a) (signed b))) (remainder_word a b))

pub signed_remainder_in : (i j : Option Arc) (a b : ℕ) → IsHeld i a → IsHeld j b → IsHeld (signed_remainder_of i j) (if b == 0 then a else unsigned (int_rem (signed a) (signed b)))
signed_remainder_in None j a b x y = tt
signed_remainder_in (Some i) None a b x y = rest_any a b x.word
signed_remainder_in (Some i) (Some j) a b x y = cond_both (are_low i j) _ _ (λ k. IsHeld k (if b == 0 then a else unsigned (int_rem (signed a) (signed b))))
    (λ h. let l = both_low i j a b h x y in
    subst (λ n. IsHeld (remainder_of (Some i) (Some j)) (if b == 0 then a else n)) (sym (signed_rest a b l.0 l.1)) (remainder_in (Some i) (Some j) a b x y))
    (λ _. rest_any a b x.word)

-- ---- shifts

power_most : (k : ℕ) → 2 ^ (k % 32) ≤ 2 ^ 31
power_most k = pow_mono (let e : k % 32 ≤ 31 = omega arith in e)

ahead_one : (v : ℕ) → 0 < v → v ≤ 2 ^ 31 → (v + (2 ^ 32 - 1)) % 2 ^ 32 ≤ 2 ^ 31 - 1
ahead_one v a b = omega arith

any_power : (k : ℕ) → IsIn (arc 1 (2 ^ 31 - 1)) (2 ^ (k % 32))
any_power k =
    let most = power_most k in
    let some = pow_pos (k % 32) in
    in_arc 1 (2 ^ 31 - 1) (2 ^ (k % 32)) (omega arith) (omega arith) (ahead_one (2 ^ (k % 32)) some most)

pub power_in : (j : Option Arc) (b : ℕ) → IsHeld j b → IsHeld (power_of j) (2 ^ (b % 32))
power_in None b y = any_power b
power_in (Some j) b y = cond_both (j.more == 0) _ _ (λ k. IsHeld k (2 ^ (b % 32)))
    (λ h. let e : b ≡ j.low = only_one j b y (eqb-true j.more 0 h) in
    subst (λ n. IsHeld (exactly (2 ^ (j.low % 32))) (2 ^ (n % 32))) (sym e) (in_exactly (2 ^ (j.low % 32))))
    (λ _. any_power b)

pub lowered_by_in : (i : Option Arc) (a k : ℕ) → k < 32 → IsHeld i a → IsHeld (lowered_by i (2 ^ k)) (unsigned (int_shr (signed a) k))
lowered_by_in None a k few x = in_word (unsigned (int_shr (signed a) k)) (lowered_word a k)
lowered_by_in (Some i) a k few x = subst (λ v. IsHeld (lowered_by (Some i) (2 ^ k)) v) (sym (lowered_is a k x.word few))
    (sum_with_in (quotient_of (sum_with (Some i) (2 ^ 31)) (exactly (2 ^ k))) (2 ^ 32 - 2 ^ 31 / 2 ^ k) (biased a / 2 ^ k)
    (quotient_in (sum_with (Some i) (2 ^ 31)) (exactly (2 ^ k)) (biased a) (2 ^ k) (pow_pos k) (sum_with_in (Some i) (2 ^ 31) a x) (in_exactly (2 ^ k))))

pub lowered_in : (i j : Option Arc) (a b : ℕ) → IsHeld i a → IsHeld j b → IsHeld (lowered_of i j) (unsigned (int_shr (signed a) (b % 32)))
lowered_in i None a b x y = in_word (unsigned (int_shr (signed a) (b % 32))) (lowered_word a (b % 32))
lowered_in i (Some j) a b x y = cond_both (j.more == 0) _ _ (λ k. IsHeld k (unsigned (int_shr (signed a) (b % 32))))
    (λ h. let e : b ≡ j.low = only_one j b y (eqb-true j.more 0 h) in
    subst (λ n. IsHeld (lowered_by i (2 ^ (j.low % 32))) (unsigned (int_shr (signed a) (n % 32)))) (sym e) (lowered_by_in i a (j.low % 32) (omega arith) x))
    (λ _. in_word (unsigned (int_shr (signed a) (b % 32))) (lowered_word a (b % 32)))

-- ---- bits

pub united_in : (i j : Option Arc) (a b : ℕ) → IsHeld i a → IsHeld j b → IsHeld (united_of i j) (bit_or a b)
united_in None j a b x y = tt
united_in (Some i) None a b x y = tt
united_in (Some i) (Some j) a b x y =
    let sum = or_add_and a b in
    let l = le_or_l a b in
    let r = le_or_r a b in
    let p = above_least i a x in
    let q = above_least j b y in
    let t = below_top i a x in
    let u = below_top j b y in
    let small : bit_or a b < 2 ^ 32 = or_of_32 a b x.word y.word in
    from_to_in (max (least i) (least j)) (top_sum i j) (bit_or a b) small (omega arith) (omega arith)

pub parted_in : (i j : Option Arc) (a b : ℕ) → IsHeld i a → IsHeld j b → IsHeld (parted_of i j) (bit_xor a b)
parted_in None j a b x y = tt
parted_in (Some i) None a b x y = tt
parted_in (Some i) (Some j) a b x y =
    let sum = xor_add_and a b in
    let t = below_top i a x in
    let u = below_top j b y in
    let small : bit_xor a b < 2 ^ 32 = xor_of_32 a b x.word y.word in
    in_low (bit_xor a b) (top_sum i j) small (omega arith)
