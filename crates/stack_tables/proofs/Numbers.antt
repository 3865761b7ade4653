-- What is so at each number of an interval.
use Rattle.std.proofs.Common.{◌≡◌, ◌<◌, ◌≤◌, ◌+◌, ◌*◌, ◌/◌, ◌%◌, ◌^◌, ℕ, zero, suc, refl, sym, ◌∙◌, subst, arith}
use Rattle.std.proofs.Math.Nat.{le-div_iff_mul-le, mul_comm}
use Rattle.bound_laws.specs.Values.{Arc, IsIn, ahead}

-- so many strides are at most as many as fit
strides_within : (n stride more : ℕ) → 0 < stride → stride * n ≤ more → n ≤ more / stride
strides_within n stride more some within = (le-div_iff_mul-le some).1 (subst (λ (x : ℕ). x ≤ more) (mul_comm stride n) within)

strides_counted : (n stride more count : ℕ) → 0 < stride → stride * n ≤ more → count ≡ more / stride → n ≤ count
strides_counted n stride more count some within same = subst (λ (x : ℕ). n ≤ x) (sym same) (strides_within n stride more some within)

-- a number of an interval by how far it is behind the first one
number_behind : (low at d : ℕ) → at < 2 ^ 32 → low < 2 ^ 32 → ahead low at ≡ d → (low + d) % 2 ^ 32 ≡ at
number_behind low at d word start behind = omega arith

none_of : (n : ℕ) → 0 * n ≡ 0 * 0
none_of n = omega arith

-- What is so at so many numbers of an interval, a stride from one to the next, is so at all of them.
pub each_number : (P : ℕ → Type 0) (place : Arc) (count : ℕ) → (0 < place.stride → count ≡ place.more / place.stride) → ((n : ℕ) → n < count + 1 → P ((place.low + place.stride * n) % 2 ^ 32)) → (at : ℕ) → IsIn place at → P at
each_number P place count last each at inside = subst P (number_behind place.low at (place.stride * number.0) inside.word inside.start (inside.step.1 ∙ number.2)) (each number.0 number.1)
  where
    within : place.stride * inside.step.0 ≤ place.more
    within = let e = inside.step.1 in let near = inside.near in omega (arith, e, near)

    number : (n : ℕ) × (n < count + 1) × (place.stride * inside.step.0 ≡ place.stride * n)
    number = by place.stride refl
      where
        by : (stride : ℕ) → place.stride ≡ stride → (n : ℕ) × (n < count + 1) × (place.stride * inside.step.0 ≡ place.stride * n)
        by zero none = (0, omega arith, subst (λ (s : ℕ). s * inside.step.0 ≡ s * 0) (sym none) (none_of inside.step.0))
        by (suc s) some =
            let strides : 0 < place.stride = subst (λ (y : ℕ). 0 < y) (sym some) (omega arith) in
            let few : inside.step.0 ≤ count = strides_counted inside.step.0 place.stride place.more count strides within (last strides) in
            (inside.step.0, omega (arith, few), refl)
