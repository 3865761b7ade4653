-- Scaffold: what a pass over the loops keeps, the longest body first.
use Rattle.std.specs.Prelude.{◌≡◌, ◌≢◌, ℕ, ◌<◌, ◌≤◌, List, length, slice_index_or, Option, Some, None, ◌⊎◌}
use Rattle.graph_algorithms.specs.declared.nesting.ranks.Rank.{Rank}
use Rattle.graph_algorithms.specs.Nesting.{HasNode, body_at, header_in_list, found_at}

abbrev pub rank_at : List Rank → ℕ → Rank
rank_at ranks i = slice_index_or ranks i (record { size = 0; number = 0 })

-- rank l is that of loop l
pub record AreRanks (bodies : List (List ℕ)) (ranks : List Rank) (done : ℕ) : Type 0 where
  pub size : length ranks ≡ done
  pub number : (l : ℕ) → l < done → (rank_at ranks l).number ≡ l
  pub length_of : (l : ℕ) → l < done → (rank_at ranks l).size ≡ length (body_at bodies l)

-- each loop once, none behind a shorter one
pub record AreFalling (bodies : List (List ℕ)) (ranks : List Rank) : Type 0 where
  pub size : length ranks ≡ length bodies
  pub within : (i : ℕ) → i < length ranks → (rank_at ranks i).number < length bodies
  pub whole : (l : ℕ) → l < length bodies → (i : ℕ) × (i < length ranks) × ((rank_at ranks i).number ≡ l)
  pub distinct : (i j : ℕ) → i < j → j < length ranks → (rank_at ranks i).number ≢ (rank_at ranks j).number
  pub falling : (i j : ℕ) → i ≤ j → j < length ranks → length (body_at bodies (rank_at ranks j).number) ≤ length
      (body_at bodies (rank_at ranks i).number)

-- v is one of the first n nodes of a body
abbrev pub IsAmong : List ℕ → ℕ → ℕ → Type 0
IsAmong body n v = (k : ℕ) × (k < n) × (slice_index_or body k v ≡ v)

-- a loop stands at the first n nodes of a body, and all else is as before
abbrev pub ArePut : List (Option ℕ) → List (Option ℕ) → List ℕ → ℕ → ℕ → Type 0
ArePut old new body n number = (v : ℕ) → v < length old →
    (IsAmong body n v × (found_at new v ≡ Some number)) ⊎ ((IsAmong body n v → ⊥) × (found_at new v ≡ found_at old v))

-- the last of the first ranks whose loop has node v
abbrev pub IsLastRank : List (List ℕ) → List Rank → ℕ → ℕ → Option ℕ → Type 0
IsLastRank bodies ranks done v None = (j : ℕ) → j < done → HasNode bodies (rank_at ranks j).number v → ⊥
IsLastRank bodies ranks done v (Some l) = (i : ℕ) × (i < done) × ((rank_at ranks i).number ≡ l) × HasNode bodies l v ×
    ((j : ℕ) → j < done → HasNode bodies (rank_at ranks j).number v → j ≤ i)

pub record IsNestingPass (bodies : List (List ℕ)) (headers : List ℕ) (ranks : List Rank) (done : ℕ) (innermost parent : List (Option ℕ))
    : Type 0 where
  pub loops : length parent ≡ length bodies
  pub last : (v : ℕ) → v < length innermost → IsLastRank bodies ranks done v (found_at innermost v)
  pub next : (j : ℕ) → j < done → IsLastRank bodies ranks j (header_in_list headers (rank_at ranks j).number)
      (found_at parent (rank_at ranks j).number)
