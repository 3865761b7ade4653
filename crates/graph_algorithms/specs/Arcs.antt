-- An order of numbers along arcs, and cycles of arcs (a topological order: Knuth, The Art of Computer Programming, 2.2.3).
use Rattle.std.specs.Prelude.{◌≡◌, ◌≢◌, ℕ, ◌+◌, ◌<◌, Bool, true, false, List, length, slice_index_or}
use Rattle.graph_algorithms.specs.declared.orders.Arc.{Arc}
use Rattle.graph_algorithms.specs.declared.orders.Order.{Order}
use Rattle.graph_algorithms.specs.declared.orders.Order.TheVariants.{Sorted, Cycle}

abbrev pub number_in_place : List ℕ → ℕ → ℕ
number_in_place numbers i = slice_index_or numbers i 0

abbrev pub arc_at : List Arc → ℕ → Arc
arc_at arcs s = slice_index_or arcs s (record { from = 0; to = 0 })

-- the arcs lead between the numbers below the count
abbrev pub AreNumbered : ℕ → List Arc → Type 0
AreNumbered count arcs = (s : ℕ) → s < length arcs → ((arc_at arcs s).from < count) × ((arc_at arcs s).to < count)

-- an arc leads from a to b
abbrev pub HasArc : List Arc → ℕ → ℕ → Type 0
HasArc arcs a b = (s : ℕ) × (s < length arcs) × ((arc_at arcs s).from ≡ a) × ((arc_at arcs s).to ≡ b)

-- arcs lead from a to b, one or more
pub data Leads (arcs : List Arc) : ℕ → ℕ → Type 0 where
  along : {a b : ℕ} → HasArc arcs a b → Leads arcs a b
  onward : {a c : ℕ} (b : ℕ) → HasArc arcs a b → Leads arcs b c → Leads arcs a c

-- no arcs lead from a number to itself
abbrev pub HasNoCycle : List Arc → Type 0
HasNoCycle arcs = (a : ℕ) → Leads arcs a a → ⊥

-- no number comes twice
abbrev pub AreDistinct : List ℕ → Type 0
AreDistinct numbers = (i j : ℕ) → i < j → j < length numbers → number_in_place numbers i ≢ number_in_place numbers j

-- x stands before y
abbrev pub StandsBefore : List ℕ → ℕ → ℕ → Type 0
StandsBefore numbers x y = (i : ℕ) × (j : ℕ) × (i < j) × (j < length numbers) × (number_in_place numbers i ≡ x) ×
    (number_in_place numbers j ≡ y)

-- the numbers below the count, each once, and each behind all to which its arcs lead
pub record IsSorted (count : ℕ) (arcs : List Arc) (order : List ℕ) : Type 0 where
  pub within : (i : ℕ) → i < length order → number_in_place order i < count
  pub whole : (x : ℕ) → x < count → (i : ℕ) × (i < length order) × (number_in_place order i ≡ x)
  pub distinct : AreDistinct order
  pub before : (s : ℕ) → s < length arcs → StandsBefore order (arc_at arcs s).to (arc_at arcs s).from

-- different numbers, at least one, each with an arc to the next, and the last with an arc to the first
pub record IsCycle (arcs : List Arc) (cycle : List ℕ) : Type 0 where
  pub some : 0 < length cycle
  pub distinct : AreDistinct cycle
  pub onward : (i : ℕ) → i + 1 < length cycle → HasArc arcs (number_in_place cycle i) (number_in_place cycle (i + 1))
  pub round : (i : ℕ) → i + 1 ≡ length cycle → HasArc arcs (number_in_place cycle i) (number_in_place cycle 0)

abbrev pub IsAnswer : ℕ → List Arc → Order → Type 0
IsAnswer count arcs (Sorted order) = IsSorted count arcs order.items
IsAnswer count arcs (Cycle cycle) = IsCycle arcs cycle.items

abbrev pub is_sorted : Order → Bool
is_sorted (Sorted order) = true
is_sorted (Cycle cycle) = false
