-- The levels of a machine, the slowest first. Times are in time units, energies in energy units.
use Rattle.std.specs.Prelude.{ℕ, ◌+◌, ◌<◌, ◌≤◌, List, length, slice_index_or}
use Rattle.power_model.specs.declared.power.Level.{Level}

-- a level that is not there
abbrev pub no_level : Level
no_level = record { period = 0; energy = 0 }

-- the level of a number
abbrev pub level : List Level → ℕ → Level
level levels i = slice_index_or levels i no_level

-- one level takes more time and less energy per cycle than the other
pub record IsSlower (one other : Level) : Type 0 where
  pub period : other.period < one.period
  pub energy : one.energy < other.energy

-- each level is slower than the one after it
abbrev pub AreRanked : List Level → Type 0
AreRanked levels = (i : ℕ) → i + 1 < length levels → IsSlower (level levels i) (level levels (i + 1))

-- each level takes time and energy
abbrev pub ArePositive : List Level → Type 0
ArePositive levels = (i : ℕ) → i < length levels → (1 ≤ (level levels i).period) × (1 ≤ (level levels i).energy)
