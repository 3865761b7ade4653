-- Scaffold: ranges in ascending order.
use Rattle.std.specs.Prelude.{ℕ, ◌<◌, ◌≤◌, List, [], ◌∷◌, ⊤}
use Rattle.scale_base.specs.declared.ranges.Range.{Range}

-- each range has an address, and begins at or above the end of the one before it
abbrev pub AscendFrom : ℕ → List Range → Type 0
AscendFrom low [] = ⊤
AscendFrom low (r ∷ ranges) = (low ≤ r.from) × (r.from < r.to) × AscendFrom r.to ranges
