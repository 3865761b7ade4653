-- The starting level: the slowest level at which the worst cycles of a job are in time.
use Rattle.std.specs.Prelude.{ℕ, ◌-◌, ◌<◌, ◌≤◌, nat_le, Bool, Option, length, find}
use Rattle.std.specs.List.{range_with_len}
use Rattle.power_model.specs.Numbers.{PowerModel}
use Rattle.power_model.specs.Price.{time_at}

-- so many cycles take no longer than the deadline at a level
abbrev pub IsInTime : PowerModel → ℕ → ℕ → Type 0
IsInTime power worst i = time_at power i worst ≤ power.deadline

-- they take longer
abbrev pub IsTooSlow : PowerModel → ℕ → ℕ → Type 0
IsTooSlow power worst i = power.deadline < time_at power i worst

-- the slowest level at which so many cycles are in time
pub record IsSlowest (power : PowerModel) (worst : ℕ) (i : ℕ) : Type 0 where
  pub is_level : i < length power.levels
  pub in_time : IsInTime power worst i
  pub slower : (j : ℕ) → j < i → IsTooSlow power worst j

-- the last level
abbrev pub fastest : PowerModel → ℕ
fastest power = length power.levels - 1

-- the same as a function: the first level at which so many cycles are in time
abbrev pub is_in_time : PowerModel → ℕ → ℕ → Bool
is_in_time power worst i = nat_le (time_at power i worst) power.deadline

abbrev pub slowest_of : PowerModel → ℕ → Option ℕ
slowest_of power worst = find (is_in_time power worst) (range_with_len 0 (length power.levels))
