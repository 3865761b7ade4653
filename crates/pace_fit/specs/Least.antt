-- The least energy of a run of so many cycles by the deadline, for one who knows that number beforehand, may run each cycle at any level, and changes levels for nothing.
-- It is what the optimal split takes (two levels at most: Ishihara and Yasuura, ISLPED 1998), rounded down, written as the dual of that linear program: for each price of time,
-- what the cycles take at least with their time paid for, less what the deadline is worth. The best price is that of two levels, or none.
use Rattle.std.specs.Prelude.{◌≡◌, ℕ, ◌+◌, ◌-◌, ◌*◌, ◌/◌, ◌≤◌, min, max, List, [], ◌∷◌, length, map, fold, sum, sum_by, Result, Ok, Err, Some}
use Rattle.std.specs.List.{range_with_len}
use Rattle.scale_base.specs.declared.refusal.Refusal.{Refusal}
use Rattle.power_model.specs.declared.power.Level.{Level}
use Rattle.power_model.specs.Levels.{level}
use Rattle.power_model.specs.Numbers.{PowerModel}
use Rattle.power_model.specs.Report.{Report}
use Rattle.machine_file.specs.Machine.{read_machine}
use Rattle.speed_sim.specs.Simulated.{simulated}

-- ---- splits of cycles over levels

-- the sum over the levels of their cycles times a number of each
abbrev pub weighed : (Level → ℕ) → List Level → List ℕ → ℕ
weighed f [] split = 0
weighed f (l ∷ levels) [] = 0
weighed f (l ∷ levels) (n ∷ split) = n * f l + weighed f levels split

-- so many cycles at each level, that many in all, within the deadline
pub record IsSplit (power : PowerModel) (cycles : ℕ) (split : List ℕ) : Type 0 where
  pub size : length split ≡ length power.levels
  pub all : sum split ≡ cycles
  pub in_time : weighed (λ l. l.period) power.levels split ≤ power.deadline

abbrev pub split_energy : PowerModel → List ℕ → ℕ
split_energy power split = weighed (λ l. l.energy) power.levels split

-- ---- the bound

-- what a cycle at a level takes where a unit of time costs a / b units of energy, times b
abbrev pub rate : (a b : ℕ) → Level → ℕ
rate a b l = b * l.energy + a * l.period

-- the least of the levels
abbrev pub least_rate : List Level → (a b : ℕ) → ℕ
least_rate levels a b = fold (λ m l. min m (rate a b l)) (rate a b (level levels 0)) levels

-- the bound at that price
abbrev pub bound_at : PowerModel → (cycles a b : ℕ) → ℕ
bound_at power cycles a b = (cycles * least_rate power.levels a b - a * power.deadline) / b

-- at the price at which levels i and j, of which i is the slower one, take the same
abbrev pub pair_bound : PowerModel → (cycles i j : ℕ) → ℕ
pair_bound power cycles i j = bound_at power cycles ((level power.levels j).energy - (level power.levels i).energy)
    ((level power.levels i).period - (level power.levels j).period)

abbrev pub greatest : ℕ → List ℕ → ℕ
greatest most bounds = fold (λ m bound. max m bound) most bounds

-- with the levels that are slower than one
abbrev pub bound_with : PowerModel → (cycles j : ℕ) → ℕ
bound_with power cycles j = greatest 0 (map (λ i. pair_bound power cycles i j) (range_with_len 0 j))

-- the greatest bound: where time costs nothing, and at the price of each two levels
unfoldable pub least_energy : PowerModel → ℕ → ℕ
least_energy power cycles = greatest (bound_at power cycles 0 1) (map (bound_with power cycles) (range_with_len 0 (length power.levels)))

-- ---- over runs

abbrev pub cycles_by : Result Report Refusal → ℕ
cycles_by (Ok report) = report.paid.cycles
cycles_by (Err refusal) = 0

-- the cycles of the run of an original on an input
abbrev pub cycles_on : (image machine loop_file input : List ℕ) → ℕ
cycles_on image machine loop_file input = cycles_by (simulated image machine input (Some loop_file))

-- the sum over some inputs
pub record IsLeastOver (image machine loop_file : List ℕ) (inputs : List (List ℕ)) (energy : ℕ) : Type 0 where
  pub power : PowerModel
  pub power_is : read_machine machine ≡ Ok power
  pub sum : energy ≡ sum_by (λ input. least_energy power (cycles_on image machine loop_file input)) inputs
