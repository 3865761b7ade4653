-- Scaffold: lists by the numbers of nodes.
use Rattle.std.specs.Prelude.{◌≡◌, ℕ, suc, ◌<◌, List, length, map, slice_index, Option, Some, None}

-- so many numbers below a bound
pub record AreNumbers (count bound : ℕ) (numbers : List ℕ) : Type 0 where
  pub size : length numbers ≡ count
  pub within : (k : ℕ) → k < count → slice_index numbers k < bound

-- the keys of places that each have a number
abbrev pub some_numbers : List ℕ → List (Option ℕ)
some_numbers numbers = map (λ k. Some k) numbers

-- a place of a chain, of which each is below those after it
abbrev pub height : Option ℕ → ℕ
height None = 0
height (Some k) = suc k
