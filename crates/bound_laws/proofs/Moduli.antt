-- Sums modulo a number.
use Rattle.std.proofs.Common.{◌≡◌, ℕ, ◌+◌, ◌-◌, ◌*◌, ◌/◌, ◌<◌, ◌≤◌, ◌%◌, ◌^◌, sym, ap, ◌∙◌, arith}
use Rattle.std.proofs.Math.Nat.{add-mod-mod, mod-add-mod, mul-add, add-mul, mul_assoc, div-add-mod}
use Rattle.std.proofs.lemmas.Nat.{mul-mod_second}

-- a factor and a shift over a sum
pub measure_adds : (k shift factor a u : ℕ) → (shift + factor * ((a + u) % k)) % k ≡ ((shift + factor * a) % k + factor * u % k) % k
measure_adds k shift factor a u =
    sym (add-mod-mod shift (factor * ((a + u) % k)) k)
    ∙ (ap (λ x. (shift + x) % k) (mul-mod_second factor (a + u) k)
    ∙ (add-mod-mod shift (factor * (a + u)) k
    ∙ (ap (λ x. x % k) (let e : factor * (a + u) ≡ factor * a + factor * u = mul-add factor a u in let q : shift + factor * (a + u) ≡ (shift + factor * a) + factor * u = omega arith in q)
    ∙ (sym (mod-add-mod (shift + factor * a) k (factor * u))
    ∙ sym (add-mod-mod ((shift + factor * a) % k) (factor * u) k)))))

-- the sum of three, of which two are taken together
pub sum_of_three : (k x a e : ℕ) → ((x + a) % k + e) % k ≡ (x + (a + e)) % k
sum_of_three k x a e =
    mod-add-mod (x + a) k e ∙ ap (λ n. n % k) (let q : (x + a) + e ≡ x + (a + e) = omega arith in q)

pub sum_inside : (k x a : ℕ) → (x + a % k) % k ≡ (x + a) % k
sum_inside k x a = add-mod-mod x a k

pub nothing_more : (a : ℕ) → a < 2 ^ 32 → (a + 0) % 2 ^ 32 ≡ a
nothing_more a h = omega arith

pub kept_sum : (k x a e : ℕ) → ((x + a) % k + e) % k ≡ (x + (a + e) % k) % k
kept_sum k x a e = sum_of_three k x a e ∙ sym (sum_inside k x (a + e))

pub no_turns : (least value : ℕ) → 0 * least ≤ value
no_turns least value = omega arith

pub one_turn : (count least start step value : ℕ) → count * least ≤ start → least ≤ step → value ≡ start + step → (count + 1) * least ≤ value
one_turn count least start step value a b e = let d : (count + 1) * least ≡ count * least + 1 * least = add-mul count 1 least in omega arith

pub small_sum : (start step width : ℕ) → start ≤ width → step + width < 2 ^ 32 → (start + step) % 2 ^ 32 ≡ start + step
small_sum start step width a b = omega arith

regroup : (s p q : ℕ) → s + p + q ≡ (s + q) + p
regroup s p q = omega arith

pub first_adds : (k shift factor other a u : ℕ) → (shift + factor * ((a + u) % k) + other) % k ≡ ((shift + factor * a + other) % k + factor * u % k) % k
first_adds k shift factor other a u =
    ap (λ n. n % k) (regroup shift (factor * ((a + u) % k)) other)
    ∙ (measure_adds k (shift + other) factor a u
    ∙ ap (λ n. (n % k + factor * u % k) % k) (sym (regroup shift (factor * a) other)))

pub sum_of_products : (k s p q : ℕ) → ((p % k + q % k) % k + s) % k ≡ (s + p + q) % k
sum_of_products k s p q =
    mod-add-mod (p % k + q % k) k s
    ∙ (ap (λ n. n % k) (let e : p % k + q % k + s ≡ (q % k + s) + p % k = omega arith in e)
    ∙ (add-mod-mod (q % k + s) p k
    ∙ (ap (λ n. n % k) (let e : q % k + s + p ≡ (s + p) + q % k = omega arith in e)
    ∙ add-mod-mod (s + p) q k)))

pub apart : (s a b : ℕ) → a < 2 ^ 32 → b < 2 ^ 32 → (s + 1 * a + (2 ^ 32 - 1) * b) % 2 ^ 32 ≡ s % 2 ^ 32 → a ≡ b
apart s a b h k e = omega arith

pub apart_back : (s a b : ℕ) → a < 2 ^ 32 → b < 2 ^ 32 → (s + (2 ^ 32 - 1) * a + 1 * b) % 2 ^ 32 ≡ s % 2 ^ 32 → a ≡ b
apart_back s a b h k e = omega arith

zero_sum : (g : ℕ) → (g + (2 ^ 32 - g % 2 ^ 32) % 2 ^ 32) % 2 ^ 32 ≡ 0
zero_sum g = omega arith

-- a register by a sum: what is taken away from it
pub solved_is : (s x g o : ℕ) → x < 2 ^ 32 →
    (((s + 1 * x + g * o) % 2 ^ 32 + (2 ^ 32 - g % 2 ^ 32) % 2 ^ 32 * o % 2 ^ 32) % 2 ^ 32 + (2 ^ 32 - s % 2 ^ 32) % 2 ^ 32) % 2 ^ 32 ≡ x
solved_is s x g o h =
    let n : ℕ = (2 ^ 32 - g % 2 ^ 32) % 2 ^ 32 in
    let t : ℕ = (2 ^ 32 - s % 2 ^ 32) % 2 ^ 32 in
    let q : ℕ = (g + n) / 2 ^ 32 in
    let q2 : ℕ = (s + t) / 2 ^ 32 in
    let a : g + n ≡ 2 ^ 32 * q = (let z = zero_sum g in let d = div-add-mod (g + n) (2 ^ 32) in omega arith) in
    let b : s + t ≡ 2 ^ 32 * q2 = (let z = zero_sum s in let d = div-add-mod (s + t) (2 ^ 32) in omega arith) in
    let c : g * o + n * o ≡ 2 ^ 32 * (q * o) = sym (add-mul g n o) ∙ (ap (λ y. y * o) a ∙ mul_assoc (2 ^ 32) q o) in
    sum_of_products (2 ^ 32) t (s + 1 * x + g * o) (n * o)
    ∙ last x s t (g * o) (n * o) q2 (q * o) h b c
  where
    last : (x s t p r k m : ℕ) → x < 2 ^ 32 → s + t ≡ 2 ^ 32 * k → p + r ≡ 2 ^ 32 * m → (t + (s + 1 * x + p) + r) % 2 ^ 32 ≡ x
    last x s t p r k m h e f = omega arith
