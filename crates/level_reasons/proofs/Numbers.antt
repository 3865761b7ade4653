-- Quotients that are rounded up, and percent.
use Rattle.std.proofs.Common.{◌≡◌, ℕ, ◌+◌, ◌*◌, ◌/◌, ◌<◌, ◌≤◌, ⊎_elim, arith}
use Rattle.std.specs.Int.{div_ceil}
use Rattle.std.proofs.Math.Nat.{mul-le-mul_right, div-le_of_le-mul}
use Rattle.std.proofs.lemmas.Bool.{cases_lt}
use Rattle.std.proofs.lemmas.Grind.{div_ceil_times}

-- what a number of at least the quotient, rounded up, takes together
pub ceil_enough : (a p y : ℕ) → 0 < p → div_ceil a p ≤ y → a ≤ y * p
ceil_enough a p y pos le =
    let up : a ≤ div_ceil a p * p = (div_ceil_times a p pos).0 in
    let more : div_ceil a p * p ≤ y * p = mul-le-mul_right p le in
    omega (arith, up, more)

-- and one below it
pub ceil_least : (a p y : ℕ) → 0 < p → y < div_ceil a p → y * p < a
ceil_least a p y pos lt =
    let low : div_ceil a p * p < a + p = (div_ceil_times a p pos).1 in
    let next : (y + 1) * p ≤ div_ceil a p * p = mul-le-mul_right p (let q : y + 1 ≤ div_ceil a p = omega arith in q) in
    let split : (y + 1) * p ≡ y * p + p = grind arith in
    omega (arith, low, next, split)

-- the quotient is no more than a number that is enough
pub ceil_le : (a p y : ℕ) → 0 < p → a ≤ y * p → div_ceil a p ≤ y
ceil_le a p y pos le = ⊎_elim
    (λ (lt : y < div_ceil a p). let low : y * p < a = ceil_least a p y pos lt in let r : div_ceil a p ≤ y = omega (arith, low, le) in r)
    (λ (ge : div_ceil a p ≤ y). ge)
    (cases_lt y (div_ceil a p))

-- ---- percent

pub percent_low : (slack left : ℕ) → 100 * slack / (left + slack) ≤ 100
percent_low slack left = div-le_of_le-mul (left + slack) (let h : 100 * slack ≤ (left + slack) * 100 = omega arith in h)

pub percent_high : (slack left : ℕ) → 0 < left + slack → div_ceil (100 * slack) (left + slack) ≤ 100
percent_high slack left pos = ceil_le (100 * slack) (left + slack) 100 pos (let h : 100 * slack ≤ 100 * (left + slack) = omega arith in h)
