-- What the switches of a run do: that none raises the level, and what each saves.
use Rattle.std.specs.Prelude.{◌≡◌, ℕ, ◌*◌, ◌-◌, ◌≤◌, ◌==◌, cond, List, [], ◌∷◌}
use Rattle.std.specs.List.{sum_by}
use Rattle.scale_base.specs.declared.stepping.Class.{Class}
use Rattle.scale_base.specs.declared.stepping.Stepped.{Stepped}
use Rattle.power_model.specs.Levels.{level}
use Rattle.power_model.specs.Numbers.{PowerModel}
use Rattle.power_model.specs.Price.{cycles_of, level_after, switch_energy}

-- the time units and the energy units of a cycle at a level, and the cycles of a class
abbrev pub period : PowerModel → ℕ → ℕ
period power i = (level power.levels i).period

abbrev pub energy : PowerModel → ℕ → ℕ
energy power i = (level power.levels i).energy

abbrev pub costs_of : PowerModel → Class → ℕ
costs_of power = cycles_of power.costs

-- no step leaves a higher level than was there before it
abbrev pub NeverRises : ℕ → List Stepped → Type 0
NeverRises i [] = Unit {0}
NeverRises i (x ∷ xs) = (level_after i x ≤ i) × NeverRises (level_after i x) xs

-- a change of level, and the cycles of the run after it
pub record Switch : Type 0 where
  pub from : ℕ
  pub to : ℕ
  pub cycles : ℕ

-- the cycles of some steps
abbrev pub cycles_in : PowerModel → List Stepped → ℕ
cycles_in power xs = sum_by (λ x. costs_of power x.class) xs

-- the switches of a run from a level, the first of them first
abbrev pub switches_from : PowerModel → ℕ → List Stepped → List Switch
switches_from power i [] = []
switches_from power i (x ∷ xs) = cond (i == level_after i x)
    (switches_from power (level_after i x) xs)
    (record { from = i; to = level_after i x; cycles = cycles_in power xs } ∷ switches_from power (level_after i x) xs)

-- the cycles after a switch times the drop in energy per cycle, and the energy that it takes
abbrev pub saved : PowerModel → Switch → ℕ
saved power x = x.cycles * (energy power x.from - energy power x.to)

abbrev pub fee : PowerModel → Switch → ℕ
fee power x = switch_energy power x.from x.to

abbrev pub AllPay : PowerModel → List Switch → Type 0
AllPay power [] = Unit {0}
AllPay power (x ∷ xs) = (fee power x ≤ saved power x) × AllPay power xs
