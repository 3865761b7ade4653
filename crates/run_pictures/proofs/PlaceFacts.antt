-- The width of a bar is its time.
use Rattle.std.proofs.Common.{◌≡◌, ℕ, ◌+◌, ◌*◌, ◌/◌, ◌%◌, ◌^◌, ◌<◌, ◌≤◌, lit<, lit≤, ⊎_elim, refl, sym, ap, ◌∙◌, subst, arith}
use Rattle.std.specs.Prelude.{◌-◌, min, max, List, [], ◌∷◌, length}
use Rattle.std.proofs.lemmas.Bool.{cases_lt}
use Rattle.std.proofs.Math.Nat.{mul-le-mul_right, mul-le-mul_left, pow-le-pow_right, one-le-pow, div-mul-le_self, lt-div-mul-add, div-eq_of_lt, min-eq_left, min-le_right, add-mul}
use Rattle.run_pictures.specs.declared.picture.PictureRun.{PictureRun}
use Rattle.run_pictures.specs.Places.{longest, place, tick_step, IsWidthOf, WidthsAreTimes}

min_left : (a b : ℕ) → a ≤ b → min a b ≡ a
min_left a b le = min-eq_left le

place_is : (end time : ℕ) → time ≤ end → place end time ≡ 240 + time * 9120 / end
unfolding place
place_is end time le = ap (λ t. 240 + t * 9120 / end) (min_left time end le)

times_sum : (q w e : ℕ) → (q + w) * e ≡ q * e + w * e
times_sum q w e = add-mul q w e

-- quotients of two numbers, the first of them not greater
between : (e x y q r : ℕ) → 1 ≤ e → x ≤ y → q * e ≤ x → x < q * e + e → r * e ≤ y → y < r * e + e → ((r - q) * e < (y - x) + e) × ((y - x) < (r - q) * e + e)
between e x y q r pos le a b c d =
    let ordered : q ≤ r = ⊎_elim
    (λ (lt : r < q). absurd (let up : (r + 1) * e ≤ q * e = mul-le-mul_right e (let s : r + 1 ≤ q = omega (arith, lt) in s) in
    let split : (r + 1) * e ≡ r * e + 1 * e = times_sum r 1 e in
    let z : ⊥ = omega (arith, up, split, le, a, d) in z))
    (λ (ge : q ≤ r). ge)
    (cases_lt r q) in
    let same : r ≡ q + (r - q) = omega (arith, ordered) in
    let whole : r * e ≡ q * e + (r - q) * e = ap (λ n. n * e) same ∙ times_sum q (r - q) e in
    ((let one : (r - q) * e < (y - x) + e = omega (arith, whole, a, b, c, d, le) in one), (let other : (y - x) < (r - q) * e + e = omega (arith, whole, a, b, c, d, le) in other))

low : (e x : ℕ) → 1 ≤ e → x / e * e ≤ x
low e x pos = div-mul-le_self x e

high : (e x : ℕ) → 1 ≤ e → x < x / e * e + e
high e x pos = lt-div-mul-add pos

-- ---- the end of the longest run

pub longest_more : (end most : ℕ) (run : PictureRun) (runs : List PictureRun) → most ≡ longest (max end run.report.meter.time) runs → most ≡ longest end (run ∷ runs)
longest_more end most run runs e = e

pub longest_empty : (end : ℕ) (runs : List PictureRun) → length runs ≡ 0 → end ≡ longest end runs
longest_empty end [] none = refl
longest_empty end (run ∷ runs) none = absurd (let r : ⊥ = omega (arith, none) in r)

-- ---- what fits

-- a time on the axis
pub place_fits : (end time : ℕ) → end < 2 ^ 113 → min time end * 9120 < 2 ^ 127
place_fits end time lt =
    let le : min time end ≤ end = min-le_right time end in
    omega (arith, le, lt)

pub tens_small : (k : ℕ) → k ≤ 110 → 10 ^ (k / 3) ≤ 10 ^ 36
tens_small k le =
    let third : k / 3 ≤ 36 = omega (arith, le) in
    pow-le-pow_right (lit< tt) third

pub tens_some : (k : ℕ) → 1 ≤ 10 ^ (k / 3)
tens_some k = let some = one-le-pow (k / 3) 10 (lit< tt) in omega (arith, some)

-- products of two numbers
pub product_most : (a b m n : ℕ) → a ≤ m → b ≤ n → a * b ≤ m * n
product_most a b m n x y =
    let one : a * b ≤ m * b = mul-le-mul_right b x in
    let two : m * b ≤ m * n = mul-le-mul_left m y in
    omega (arith, one, two)

pub product_some : (a b : ℕ) → 1 ≤ a → 1 ≤ b → 1 ≤ a * b
product_some a b x y =
    let one : 1 * b ≤ a * b = mul-le-mul_right b x in
    omega (arith, one, y)

-- the last step is enough for every axis
pub last_few : (end : ℕ) → end < 2 ^ 113 → end / tick_step 110 ≤ 8
unfolding tick_step
last_few end lt =
    let below : end < 5 * 10 ^ 36 = omega (arith, lt) in
    let none : end / (5 * 10 ^ 36) ≡ 0 = div-eq_of_lt below in
    subst (λ n. n ≤ 8) (sym none) (lit≤ tt)

pub widths : WidthsAreTimes
widths end begin time pos first last =
    let begins : begin ≤ end = omega (arith, first, last) in
    let x : ℕ = begin * 9120 in
    let y : ℕ = time * 9120 in
    let le : x ≤ y = omega (arith, first) in
    let both = between end x y (x / end) (y / end) pos le (low end x pos) (high end x pos) (low end y pos) (high end y pos) in
    let width : place end time - place end begin ≡ y / end - x / end =
    ap (λ p. p - place end begin) (place_is end time last) ∙ ap (λ p. (240 + y / end) - p) (place_is end begin begins) ∙ (let e : (240 + y / end) - (240 + x / end) ≡ y / end - x / end = omega arith in e) in
    let taken : y - x ≡ (time - begin) * 9120 = omega (arith, first) in
    subst (λ w. IsWidthOf end (time - begin) w) (sym width) (subst (λ t. ((y / end - x / end) * end < t + end) × (t < (y / end - x / end) * end + end)) taken both)
