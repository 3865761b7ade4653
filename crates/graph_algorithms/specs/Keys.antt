-- Scaffold: the places of a list by their keys.
use Rattle.std.specs.Prelude.{◌≡◌, ℕ, ◌<◌, ◌≤◌, List, length, slice_index_or, Option, Some, None}

-- the last place of each key, and for each place the one before it with the same key
pub record ChainView : Type 0 where
  pub last : List (Option ℕ)
  pub before : List (Option ℕ)

-- what a list has at a place, and None behind its end
abbrev pub option_at : List (Option ℕ) → ℕ → Option ℕ
option_at xs i = slice_index_or xs i None

abbrev pub HasKey : List (Option ℕ) → ℕ → ℕ → Type 0
HasKey keys s k = option_at keys s ≡ Some k

-- each key is below the count
abbrev pub AreKeys : List (Option ℕ) → ℕ → Type 0
AreKeys keys count = (s k : ℕ) → HasKey keys s k → k < count

-- the greatest place below n that has key k, or None where no place below n has it
pub record IsLastBelow (keys : List (Option ℕ)) (n k : ℕ) (found : Option ℕ) : Type 0 where
  pub place : (s : ℕ) → found ≡ Some s → (s < n) × HasKey keys s k
  pub greatest : (r : ℕ) → r < n → HasKey keys r k → (s : ℕ) × (found ≡ Some s) × (r ≤ s)

-- The chains of all keys. None stands before a place that has no key.
pub record AreChains (keys : List (Option ℕ)) (count : ℕ) (view : ChainView) : Type 0 where
  pub last_size : length view.last ≡ count
  pub before_size : length view.before ≡ length keys
  pub last : (k : ℕ) → k < count → IsLastBelow keys (length keys) k (option_at view.last k)
  pub before : (s k : ℕ) → HasKey keys s k → IsLastBelow keys s k (option_at view.before s)
  pub keyless : (s : ℕ) → s < length keys → option_at keys s ≡ None → option_at view.before s ≡ None
