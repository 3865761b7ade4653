-- The greatest power of 2 that is at most a number.
use Rattle.std.proofs.Common.{◌≡◌, ℕ, zero, suc, ◌+◌, ◌*◌, ◌<◌, ◌≤◌, ◌^◌, Bool, true, false, refl, sym, ap, ◌∙◌, arith, Option, Some, None}
use Rattle.std.specs.Prelude.{nat_lt}
use Rattle.std.proofs.lemmas.Bool.{cond_both, ltb-false, ltb-true}
use Rattle.std.proofs.Math.Nat.{pow-le-pow_right}
use Rattle.bound_laws.specs.Values.{Arc, least_of}
use Rattle.turn_laws.specs.Relating.{exponent_within, bits_off}

powers : (m n : ℕ) → m ≤ n → 2 ^ m ≤ 2 ^ n
powers m n h = pow-le-pow_right (let e : 0 < 2 = omega arith in e) h

doubled : (r : ℕ) → 2 ^ suc r ≡ 2 * 2 ^ r
doubled r = omega arith

-- a smaller power has a smaller exponent
less_exponent : (r k n : ℕ) → 2 ^ r ≤ n → n < 2 ^ k → r < k
less_exponent r k n low high = go (nat_lt r k) refl
  where
    go : (y : Bool) → nat_lt r k ≡ y → r < k
    go true e = ltb-true r k e
    go false e = let p = powers k r (ltb-false r k e) in absurd (let bad : ⊥ = omega arith in bad)

exponent_is : (k n r : ℕ) → r ≤ k → 2 ^ r ≤ n → n < 2 * 2 ^ r → exponent_within k n ≡ r
exponent_is zero n r le low high = omega arith
exponent_is (suc k) n r le low high = cond_both (nat_lt n (2 ^ suc k)) (exponent_within k n) (suc k) (λ e. e ≡ r)
    (λ h. let less : r < suc k = less_exponent r (suc k) n low (ltb-true n (2 ^ suc k) h) in exponent_is k n r (omega arith) low high)
    (λ h. let d = doubled r in let more : suc k < suc r = less_exponent (suc k) (suc r) n (ltb-false n (2 ^ suc k) h) (omega arith) in omega arith)

none_within : (k : ℕ) → exponent_within k 0 ≡ 0
none_within zero = refl
none_within (suc k) = cond_both (nat_lt 0 (2 ^ suc k)) (exponent_within k 0) (suc k) (λ e. e ≡ 0) (λ _. none_within k)
    (λ h. let p = ltb-false 0 (2 ^ suc k) h in let q = powers 0 (suc k) (omega arith) in absurd (let bad : ⊥ = omega arith in bad))

least_word : (j : Option Arc) → least_of j < 2 ^ 32
least_word None = omega arith
least_word (Some j) = cond_both (nat_lt (j.low + j.more) (2 ^ 32)) _ _ (λ n. n < 2 ^ 32)
    (λ h. let p = ltb-true (j.low + j.more) (2 ^ 32) h in omega arith) (λ _. omega arith)

pub exponent_small : (j : Option Arc) (r : ℕ) → 2 ^ r ≤ least_of j → r < 32
exponent_small j r low = less_exponent r 32 (least_of j) low (least_word j)

-- bits that a quotient has less, by the least divisor
pub off_is : (j : Option Arc) (r : ℕ) → 2 ^ r ≤ least_of j → least_of j < 2 * 2 ^ r → r ≡ bits_off j
unfolding bits_off
off_is j r low high = sym (exponent_is 31 (least_of j) r (let p = exponent_small j r low in omega arith) low high)

pub none_off : (j : Option Arc) → least_of j ≡ 0 → 0 ≡ bits_off j
unfolding bits_off
none_off j none = sym (ap (λ n. exponent_within 31 n) none ∙ none_within 31)
