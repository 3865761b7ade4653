-- Signed numbers: what their divisions, remainders and products give are words, and a shift of one to the right is an unsigned division.
use Rattle.std.proofs.Common.{◌≡◌, ℕ, zero, suc, ◌+◌, ◌-◌, ◌*◌, ◌/◌, ◌<◌, ◌≤◌, ◌%◌, ◌^◌, Bool, true, false, refl, sym, ap, ◌∙◌, subst, arith}
use Rattle.std.specs.Prelude.{ℤ, pos, negsuc, ◌*ℤ◌, nat_lt, int_div, int_rem}
use Rattle.std.specs.Int.{w32, w64, cast_unsigned, int_shr}
use Rattle.std.proofs.lemmas.Int.{to_z_pos}
use Rattle.std.proofs.lemmas.Bool.{ltb-true, ltb-false, le-ltb}
use Rattle.std.proofs.lemmas.Nat.{div-mul-add, div_below, pow_pos, pow-add}
use Rattle.std.proofs.Math.Nat.{div-le_self, mul-add, add-mul-div_left, mul-div_cancel_left, mul-le-mul, mul_comm, div-add-mod, mod-lt}
use lib.IntN.{neg_ℤ}
use lib.Signed.{mag, mag_rem, mag_shr}
use mir.Val.{sel}
use Rattle.scale_base.specs.Arith.{plus, signed, unsigned, upper_half}
use Rattle.bound_laws.specs.Values.{biased}

pub low_one : (a : ℕ) → a < 2 ^ 31 → signed a ≡ pos a
low_one a h = to_z_pos w32 a h

pub high_one : (a : ℕ) → 2 ^ 31 ≤ a → signed a ≡ negsuc (2 ^ 32 - suc a)
high_one a h = ap (λ b. sel b (pos a) (negsuc (2 ^ 32 - suc a))) (le-ltb a (2 ^ 31) h)

-- Whatever a register holds is read as a number from -2^31 on, below 2^31.
signed_small : (a : ℕ) → mag (signed a) < 2 ^ 31
signed_small a = by (nat_lt a (2 ^ 31)) refl
  where
    by : (p : Bool) → nat_lt a (2 ^ 31) ≡ p → mag (signed a) < 2 ^ 31
    by true e = let l : a < 2 ^ 31 = ltb-true a (2 ^ 31) e in subst (λ z. mag z < 2 ^ 31) (sym (low_one a l)) l
    by false e = let l : 2 ^ 31 ≤ a = ltb-false a (2 ^ 31) e in subst (λ z. mag z < 2 ^ 31) (sym (high_one a l)) (let k : 2 ^ 32 - suc a < 2 ^ 31 = omega arith in k)

-- ---- words

word_of : (z : ℤ) → mag z < 2 ^ 31 → unsigned z < 2 ^ 32
word_of (pos n) h = omega arith
word_of (negsuc n) h = let k : 2 ^ 32 - suc n < 2 ^ 32 = omega arith in k

negative_word : (n : ℕ) → unsigned (neg_ℤ (pos n)) < 2 ^ 32
negative_word zero = omega arith
negative_word (suc n) = let k : 2 ^ 32 - suc n < 2 ^ 32 = omega arith in k

quotient_word : (x y : ℤ) → mag x < 2 ^ 31 → unsigned (int_div x y) < 2 ^ 32
quotient_word (pos a) (pos b) h = let k = div-le_self a b in omega arith
quotient_word (pos a) (negsuc b) h = negative_word (a / suc b)
quotient_word (negsuc a) (pos b) h = negative_word (suc a / b)
quotient_word (negsuc a) (negsuc b) h = let k = div-le_self (suc a) (suc b) in omega arith

pub divided_word : (a b : ℕ) → unsigned (int_div (signed a) (signed b)) < 2 ^ 32
divided_word a b = quotient_word (signed a) (signed b) (signed_small a)

pub remainder_word : (a b : ℕ) → unsigned (int_rem (signed a) (signed b)) < 2 ^ 32
remainder_word a b = word_of (int_rem (signed a) (signed b)) (let p = mag_rem (signed a) (signed b) in let q = signed_small a in omega arith)

pub lowered_word : (a k : ℕ) → unsigned (int_shr (signed a) k) < 2 ^ 32
lowered_word a k = word_of (int_shr (signed a) k) (let p = mag_shr (signed a) (2 ^ k) in let q = signed_small a in omega arith)

negative_double : (n : ℕ) → cast_unsigned w64 (neg_ℤ (pos n)) < 2 ^ 64
negative_double zero = omega arith
negative_double (suc n) = let k : 2 ^ 64 - suc n < 2 ^ 64 = omega arith in k

product_small : (x y : ℤ) → mag x < 2 ^ 31 → mag y < 2 ^ 32 → cast_unsigned w64 (x *ℤ y) < 2 ^ 64
product_small (pos a) (pos b) h k = let p : a * b ≤ 2 ^ 31 * 2 ^ 32 = mul-le-mul (let u : a ≤ 2 ^ 31 = omega arith in u) (let u : b ≤ 2 ^ 32 = omega arith in u) in omega arith
product_small (pos a) (negsuc b) h k = negative_double (a * suc b)
product_small (negsuc a) (pos b) h k = negative_double (suc a * b)
product_small (negsuc a) (negsuc b) h k = let p : suc a * suc b ≤ 2 ^ 31 * 2 ^ 32 = mul-le-mul (let u : suc a ≤ 2 ^ 31 = omega arith in u) (let u : suc b ≤ 2 ^ 32 = omega arith in u) in omega arith

half_word : (n : ℕ) → n < 2 ^ 64 → n / 2 ^ 32 < 2 ^ 32
half_word n h = omega arith

pub upper_word : (a b : ℕ) → upper_half (signed a *ℤ signed b) < 2 ^ 32
upper_word a b = half_word (cast_unsigned w64 (signed a *ℤ signed b)) (product_small (signed a) (signed b) (signed_small a) (let q = signed_small b in omega arith))

pub upper_word_by : (a b : ℕ) → b < 2 ^ 32 → upper_half (signed a *ℤ pos b) < 2 ^ 32
upper_word_by a b w = half_word (cast_unsigned w64 (signed a *ℤ pos b)) (product_small (signed a) (pos b) (signed_small a) w)

-- ---- shifts to the right

-- The multiples of n below n * q, counted from both ends.
quotients_meet : (n q c d : ℕ) → 0 < n → c + d + 1 ≡ n * q → d / n + c / n + 1 ≡ q
quotients_meet n q c d some is =
    let k : ℕ = c / n in
    let r : ℕ = c % n in
    let few : r < n = mod-lt c some in
    let parts : n * k + r ≡ c = div-add-mod c n in
    let far : c < q * n = (let e : q * n ≡ n * q = mul_comm q n in omega arith) in
    let more : k < q = div_below c n q some far in
    let z : ℕ = q - (k + 1) in
    let y : ℕ = n - 1 - r in
    let whole : q ≡ k + (1 + z) = omega arith in
    let split : n * q ≡ n * k + n * (1 + z) = ap (λ x. n * x) whole ∙ mul-add n k (1 + z) in
    let last : n * (1 + z) ≡ n * 1 + n * z = mul-add n 1 z in
    let turned : z * n ≡ n * z = mul_comm z n in
    let e : d ≡ z * n + y = omega arith in
    let f : d / n ≡ z = ap (λ x. x / n) e ∙ div-mul-add z n y (omega arith) in
    omega arith

lowered_low : (a n q : ℕ) → 0 < n → 2 ^ 31 ≡ n * q → a < 2 ^ 31 → a / n ≡ plus (biased a / n) (2 ^ 32 - 2 ^ 31 / n)
lowered_low a n q some is small =
    let half : 2 ^ 31 / n ≡ q = ap (λ x. x / n) is ∙ mul-div_cancel_left q some in
    let few : 2 ^ 31 / n ≤ 2 ^ 31 = div-le_self (2 ^ 31) n in
    let less : a / n ≤ a = div-le_self a n in
    let raised : biased a ≡ a + n * q = (let e : biased a ≡ a + 2 ^ 31 = omega arith in e ∙ ap (λ x. a + x) is) in
    let sum : biased a / n ≡ a / n + q = ap (λ x. x / n) raised ∙ add-mul-div_left a q some in
    omega arith

lowered_high : (a n q : ℕ) → 0 < n → 2 ^ 31 ≡ n * q → a < 2 ^ 32 → 2 ^ 31 ≤ a → 2 ^ 32 - suc ((2 ^ 32 - suc a) / n) ≡ plus (biased a / n) (2 ^ 32 - 2 ^ 31 / n)
lowered_high a n q some is word high =
    let half : 2 ^ 31 / n ≡ q = ap (λ x. x / n) is ∙ mul-div_cancel_left q some in
    let few : 2 ^ 31 / n ≤ 2 ^ 31 = div-le_self (2 ^ 31) n in
    let all : biased a + (2 ^ 32 - suc a) + 1 ≡ n * q = (let e : biased a + (2 ^ 32 - suc a) + 1 ≡ 2 ^ 31 = omega arith in e ∙ is) in
    let meet : (2 ^ 32 - suc a) / n + biased a / n + 1 ≡ q = quotients_meet n q (biased a) (2 ^ 32 - suc a) some all in
    omega arith

power_split : (k : ℕ) → k < 32 → 2 ^ 31 ≡ 2 ^ k * 2 ^ (31 - k)
power_split k h = ap (λ x. 2 ^ x) (let e : 31 ≡ k + (31 - k) = omega arith in e) ∙ pow-add 2 k (31 - k)

-- A shift that copies the sign bit divides by 2^k and rounds down.
pub lowered_is : (a k : ℕ) → a < 2 ^ 32 → k < 32 → unsigned (int_shr (signed a) k) ≡ plus (biased a / 2 ^ k) (2 ^ 32 - 2 ^ 31 / 2 ^ k)
lowered_is a k word few = by (nat_lt a (2 ^ 31)) refl
  where
    by : (p : Bool) → nat_lt a (2 ^ 31) ≡ p → unsigned (int_shr (signed a) k) ≡ plus (biased a / 2 ^ k) (2 ^ 32 - 2 ^ 31 / 2 ^ k)
    by true e =
        let l : a < 2 ^ 31 = ltb-true a (2 ^ 31) e in
        ap (λ z. unsigned (int_shr z k)) (low_one a l) ∙ lowered_low a (2 ^ k) (2 ^ (31 - k)) (pow_pos k) (power_split k few) l
    by false e =
        let l : 2 ^ 31 ≤ a = ltb-false a (2 ^ 31) e in
        ap (λ z. unsigned (int_shr z k)) (high_one a l) ∙ lowered_high a (2 ^ k) (2 ^ (31 - k)) (pow_pos k) (power_split k few) word l
