-- Cycles of a relation, as refusals name them.
use Rattle.std.specs.Prelude.{◌≡◌, ℕ, ◌+◌, ◌<◌, ◌≤◌, List, length}
use Rattle.graph_algorithms.specs.Arcs.{number_in_place, AreDistinct}

-- different numbers, at least one, each in relation to the next and the last to the first, the least of them first
pub record IsCycleBy (R : ℕ → ℕ → Type 0) (cycle : List ℕ) : Type 0 where
  pub some : 0 < length cycle
  pub distinct : AreDistinct cycle
  pub onward : (i : ℕ) → i + 1 < length cycle → R (number_in_place cycle i) (number_in_place cycle (i + 1))
  pub round : (i : ℕ) → i + 1 ≡ length cycle → R (number_in_place cycle i) (number_in_place cycle 0)
  pub least : (i : ℕ) → i < length cycle → number_in_place cycle 0 ≤ number_in_place cycle i
