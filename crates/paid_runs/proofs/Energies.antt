-- What the switches of a run save, and what they cost.
use Rattle.std.proofs.Common.{◌≡◌, ℕ, zero, suc, ◌+◌, ◌-◌, ◌*◌, ◌<◌, ◌≤◌, ◌==◌, Bool, true, false, cond, List, [], ◌∷◌, length, fold, refl, ap, ◌∙◌, subst, arith, le_refl}
use Rattle.std.specs.Prelude.{if◌then◌else◌}
use Rattle.std.specs.List.{sum_by}
use Rattle.std.proofs.Math.Nat.{add-mul}
use Rattle.std.proofs.lemmas.Bool.{eqb-true}
use Rattle.std.proofs.lemmas.List.Sums.{sum_by-cons}
use Rattle.scale_base.specs.declared.stepping.Stepped.{Stepped}
use Rattle.power_model.specs.declared.power.Level.{Level}
use Rattle.power_model.specs.Levels.{level, AreRanked}
use Rattle.power_model.specs.Numbers.{PowerModel, RunPrice}
use Rattle.power_model.specs.Pairs.{pair_at}
use Rattle.power_model.specs.Price.{level_after, metered, price, unstarted, switch_energy, held_energy}
use Rattle.stored_runs.specs.Cycles.{stepped_cycles}
use Rattle.power_model.specs.Switches.{energy, costs_of, NeverRises, Switch, switches_from, saved, fee, AllPay}

-- ---- the order of levels

period_up : (levels : List Level) (l k : ℕ) → AreRanked levels → l + k < length levels → (level levels (l + k)).period ≤ (level levels l).period
period_up levels l zero ranked h = grind arith
period_up levels l (suc k) ranked h =
    let before = period_up levels l k ranked (omega arith) in
    let step : (level levels (l + k + 1)).period < (level levels (l + k)).period = (ranked (l + k) (omega arith)).period in
    grind arith

energy_up : (levels : List Level) (l k : ℕ) → AreRanked levels → l + k < length levels → (level levels l).energy ≤ (level levels (l + k)).energy
energy_up levels l zero ranked h = grind arith
energy_up levels l (suc k) ranked h =
    let before = energy_up levels l k ranked (omega arith) in
    let step : (level levels (l + k)).energy < (level levels (l + k + 1)).energy = (ranked (l + k) (omega arith)).energy in
    grind arith

pub period_le : (levels : List Level) (l i : ℕ) → AreRanked levels → l ≤ i → i < length levels → (level levels i).period ≤ (level levels l).period
period_le levels l i ranked le h =
    let is : l + (i - l) ≡ i = omega arith in
    subst (λ n. (level levels n).period ≤ (level levels l).period) is (period_up levels l (i - l) ranked (omega arith))

pub energy_le : (levels : List Level) (l i : ℕ) → AreRanked levels → l ≤ i → i < length levels → (level levels l).energy ≤ (level levels i).energy
energy_le levels l i ranked le h =
    let is : l + (i - l) ≡ i = omega arith in
    subst (λ n. (level levels l).energy ≤ (level levels n).energy) is (energy_up levels l (i - l) ranked (omega arith))

-- ---- sums

pub cycles_from : (power : PowerModel) (n : RunPrice) (xs : List Stepped) → (fold (metered power) n xs).cycles ≡ n.cycles + stepped_cycles (costs_of power) xs
cycles_from power n [] = omega arith
cycles_from power n (x ∷ xs) =
    let rest = cycles_from power (metered power n x) xs in
    omega (arith, rest, sum_by-cons (λ y. costs_of power y.class) x xs)

start_from : (power : PowerModel) (n : RunPrice) (xs : List Stepped) → (fold (metered power) n xs).start ≡ n.start
start_from power n [] = refl
start_from power n (x ∷ xs) = start_from power (metered power n x) xs

spread : (c x y : ℕ) → c * (x + y) ≡ c * x + c * y
spread c x y = grind arith

-- one step: the cycles behind it at the level before are those at the level after, and what is saved
step_sum : (power : PowerModel) (n : RunPrice) (x : Stepped) (xs : List Stepped) (final : ℕ) → AreRanked power.levels → n.level < length power.levels → level_after n.level x ≤ n.level
    → final + sum_by (saved power) (switches_from power (level_after n.level x) xs)
    ≡ (metered power n x).energy + stepped_cycles (costs_of power) xs * energy power (level_after n.level x) + sum_by (fee power) (switches_from power (level_after n.level x) xs)
    → (b : Bool) → (n.level == level_after n.level x) ≡ b
    → final + sum_by (saved power) (cond b (switches_from power (level_after n.level x) xs) (record { from = n.level; to = level_after n.level x; cycles = stepped_cycles (costs_of power) xs } ∷ switches_from power (level_after n.level x) xs))
    ≡ n.energy + (costs_of power x.class + stepped_cycles (costs_of power) xs) * energy power n.level
    + sum_by (fee power) (cond b (switches_from power (level_after n.level x) xs) (record { from = n.level; to = level_after n.level x; cycles = stepped_cycles (costs_of power) xs } ∷ switches_from power (level_after n.level x) xs))
step_sum power n x xs final ranked low falls ih true is =
    let none : switch_energy power n.level (level_after n.level x) ≡ 0 = ap (λ (b : Bool). if b then 0 else pair_at power.switch_energy n.level (level_after n.level x)) is in
    let same : n.level ≡ level_after n.level x = eqb-true n.level (level_after n.level x) is in
    let rate : stepped_cycles (costs_of power) xs * energy power n.level ≡ stepped_cycles (costs_of power) xs * energy power (level_after n.level x) = ap (λ i. stepped_cycles (costs_of power) xs * energy power i) same in
    let both = add-mul (costs_of power x.class) (stepped_cycles (costs_of power) xs) (energy power n.level) in
    omega (arith, ih, none, rate, both)
step_sum power n x xs final ranked low falls ih false is =
    let lower : energy power (level_after n.level x) ≤ energy power n.level = energy_le power.levels (level_after n.level x) n.level ranked falls low in
    let split : energy power n.level ≡ energy power (level_after n.level x) + (energy power n.level - energy power (level_after n.level x)) = omega (arith, lower) in
    let rate : stepped_cycles (costs_of power) xs * energy power n.level ≡ stepped_cycles (costs_of power) xs * energy power (level_after n.level x) + stepped_cycles (costs_of power) xs * (energy power n.level - energy power (level_after n.level x)) =
    ap (λ i. stepped_cycles (costs_of power) xs * i) split ∙ spread (stepped_cycles (costs_of power) xs) (energy power (level_after n.level x)) (energy power n.level - energy power (level_after n.level x)) in
    let both = add-mul (costs_of power x.class) (stepped_cycles (costs_of power) xs) (energy power n.level) in
    let one : Switch = record { from = n.level; to = level_after n.level x; cycles = stepped_cycles (costs_of power) xs } in
    let rest = switches_from power (level_after n.level x) xs in
    omega (arith, ih, rate, both, sum_by-cons (saved power) one rest, sum_by-cons (fee power) one rest)

sum_from : (power : PowerModel) (n : RunPrice) (xs : List Stepped) → AreRanked power.levels → n.level < length power.levels → NeverRises n.level xs
    → (fold (metered power) n xs).energy + sum_by (saved power) (switches_from power n.level xs) ≡ n.energy + stepped_cycles (costs_of power) xs * energy power n.level + sum_by (fee power) (switches_from power n.level xs)
sum_from power n [] ranked low falls = omega arith
sum_from power n (x ∷ xs) ranked low falls =
    let ih = sum_from power (metered power n x) xs ranked (below (level_after n.level x) n.level (length power.levels) falls.0 low) falls.1 in
    let one = step_sum power n x xs (fold (metered power) (metered power n x) xs).energy ranked low falls.0 ih (n.level == level_after n.level x) refl in
    let sum : stepped_cycles (costs_of power) (x ∷ xs) * energy power n.level ≡ (costs_of power x.class + stepped_cycles (costs_of power) xs) * energy power n.level = ap (λ c. c * energy power n.level) (sum_by-cons (λ y. costs_of power y.class) x xs) in
    omega (arith, one, sum)
  where
    below : (a b c : ℕ) → a ≤ b → b < c → a < c
    below a b c h g = omega arith

pub energy_sum : (power : PowerModel) (start : ℕ) (xs : List Stepped) → AreRanked power.levels → start < length power.levels → NeverRises start xs
    → held_energy power (price power start xs) + sum_by (fee power) (switches_from power start xs) ≡ (price power start xs).energy + sum_by (saved power) (switches_from power start xs)
energy_sum power start xs ranked low falls =
    let sum = sum_from power (unstarted start) xs ranked low falls in
    let all : (price power start xs).cycles ≡ stepped_cycles (costs_of power) xs = cycles_from power (unstarted start) xs ∙ omega arith in
    let at : (price power start xs).start ≡ start = start_from power (unstarted start) xs in
    let held : held_energy power (price power start xs) ≡ stepped_cycles (costs_of power) xs * energy power start = ap (λ c. c * energy power (price power start xs).start) all ∙ ap (λ i. stepped_cycles (costs_of power) xs * energy power i) at in
    omega (arith, sum, held)

fees_le : (power : PowerModel) (xs : List Switch) → AllPay power xs → sum_by (fee power) xs ≤ sum_by (saved power) xs
fees_le power [] pay = le_refl 0
fees_le power (x ∷ xs) pay =
    let rest = fees_le power xs pay.1 in
    let here = pay.0 in
    omega (arith, rest, here, sum_by-cons (fee power) x xs, sum_by-cons (saved power) x xs)

pub switches_save : (power : PowerModel) (start : ℕ) (xs : List Stepped) → AreRanked power.levels → start < length power.levels → NeverRises start xs
    → AllPay power (switches_from power start xs) → (price power start xs).energy ≤ held_energy power (price power start xs)
switches_save power start xs ranked low falls pay =
    omega (arith, energy_sum power start xs ranked low falls, fees_le power (switches_from power start xs) pay)
