-- Levels that are in order.
use Rattle.std.proofs.Common.{◌≡◌, ℕ, ◌+◌, ◌-◌, ◌<◌, ◌≤◌, List, length, zero, suc, arith, subst}
use Rattle.std.proofs.Math.Nat.{mul-le-mul_left}
use Rattle.power_model.specs.declared.power.Level.{Level}
use Rattle.power_model.specs.Levels.{level, AreRanked}
use Rattle.power_model.specs.Numbers.{PowerModel}
use Rattle.power_model.specs.Slowest.{IsInTime, fastest}

-- a later level has no longer period
pub period-falls : (levels : List Level) (i k : ℕ) → AreRanked levels → i + k < length levels → (level levels (i + k)).period ≤ (level levels i).period
period-falls levels i zero ranked h = grind arith
period-falls levels i (suc k) ranked h =
    let before = period-falls levels i k ranked (omega arith) in
    let step : (level levels (i + k + 1)).period < (level levels (i + k)).period = (ranked (i + k) (omega arith)).period in
    grind arith

-- what is in time at a level is in time at the fastest
pub in_time-fastest : (power : PowerModel) (worst i : ℕ) → AreRanked power.levels → i < length power.levels → IsInTime power worst i → IsInTime power worst (fastest power)
in_time-fastest power worst i ranked h timely =
    let last : i + (fastest power - i) ≡ fastest power = omega arith in
    let falls = period-falls power.levels i (fastest power - i) ranked (omega arith) in
    let P : ℕ → Type 0 = λ n. (level power.levels n).period ≤ (level power.levels i).period in
    omega (arith, mul-le-mul_left worst (subst P last falls))
