-- Scaffold: what tables by pair of levels hold.
use Rattle.std.specs.Prelude.{◌≡◌, ℕ, ◌<◌}
use Rattle.power_model.specs.Numbers.{PowerModel}
use Rattle.power_model.specs.Pairs.{pair_at, pairs_by, uniform}
use Rattle.power_model.specs.Price.{switch_time}

-- The law: a table made from numbers holds each of them in its row and column.
abbrev pub PairsHoldNumbers : Type 0
PairsHoldNumbers = (f : ℕ → ℕ → ℕ) (i l : ℕ) → i < 8 → l < 8 → pair_at (pairs_by f) i l ≡ f i l

-- The law: where there is one number for each change of level, a switch between two levels takes it.
abbrev pub EachChangeTakesOne : Type 0
EachChangeTakesOne = (power : PowerModel) (n i l : ℕ) → power.switch_time ≡ uniform n → i < 8 → l < 8 → (i ≡ l → ⊥) →
    switch_time power i l ≡ n
