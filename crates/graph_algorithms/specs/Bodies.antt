-- Scaffold: bodies of natural loops (Aho, Lam, Sethi and Ullman, Compilers, section 9.6).
use Rattle.std.specs.Prelude.{◌≡◌, ◌≢◌, ℕ, ◌<◌, ◌≤◌, Bool, true, ◌&&◌, ◌↔◌, ◌⊎◌, nat_le, nat_lt, List, slice_get, Option, Some, None}
use Rattle.std.specs.List.{list_any}
use Rattle.graph_algorithms.specs.declared.bodies.extent.NodeRange.{NodeRange}

-- an edge leads from node v to node u
abbrev pub HasEdge : List ℕ → List (Option ℕ) → ℕ → ℕ → Type 0
HasEdge sources targets v u = (e : ℕ) × (slice_get sources e ≡ Some v) × (slice_get targets e ≡ Some (Some u))

-- Edges lead from a node to the header, one or more, of which each starts within the extent.
pub data LeadsWithin (sources : List ℕ) (targets : List (Option ℕ)) (extent : ℕ → Bool) (header : ℕ) : ℕ → Type 0 where
  at_once : {v : ℕ} → HasEdge sources targets v header → extent v ≡ true → LeadsWithin sources targets extent header v
  onward : {v : ℕ} (u : ℕ) → HasEdge sources targets v u → extent v ≡ true → LeadsWithin sources targets extent header u →
      LeadsWithin sources targets extent header v

abbrev pub IsIn : List ℕ → ℕ → Type 0
IsIn nodes v = (p : ℕ) × (slice_get nodes p ≡ Some v)

-- The nodes that lead to the header within the extent, each once. Where the extent doesn't have the header, there are none.
pub record IsBody (sources : List ℕ) (targets : List (Option ℕ)) (extent : ℕ → Bool) (header : ℕ) (body : List ℕ) : Type 0 where
  pub nodes : (v : ℕ) → IsIn body v ↔ ((extent header ≡ true) × LeadsWithin sources targets extent header v)
  pub once : (i j v : ℕ) → slice_get body i ≡ Some v → slice_get body j ≡ Some v → i ≡ j

-- a node lies in a range, and in one of some ranges
abbrev pub in_node_range : ℕ → NodeRange → Bool
in_node_range v range = nat_le range.from v && nat_lt v range.to

abbrev pub in_node_ranges : List NodeRange → ℕ → Bool
in_node_ranges ranges v = list_any (in_node_range v) ranges

-- an edge leads from the extent to the header
abbrev pub HasEdgeBack : List ℕ → List (Option ℕ) → (ℕ → Bool) → ℕ → Type 0
HasEdgeBack sources targets extent header = (v : ℕ) × HasEdge sources targets v header × (extent v ≡ true)

-- nodes below a count, each once
pub record AreNodes (count : ℕ) (nodes : List ℕ) : Type 0 where
  pub within : (p v : ℕ) → slice_get nodes p ≡ Some v → v < count
  pub once : (i j v : ℕ) → slice_get nodes i ≡ Some v → slice_get nodes j ≡ Some v → i ≡ j

-- an edge leads from outside a body to a node of it that isn't the header
abbrev pub IsSideEdge : List ℕ → List (Option ℕ) → ℕ → List ℕ → ℕ → ℕ → Type 0
IsSideEdge sources targets header body from to = HasEdge sources targets from to × IsIn body to × (to ≢ header) × (IsIn body from → ⊥)

-- one pair of numbers isn't above the other, by the first numbers and then by the second
abbrev pub IsPairUpTo : ℕ → ℕ → ℕ → ℕ → Type 0
IsPairUpTo a b c d = (a < c) ⊎ ((a ≡ c) × (b ≤ d))

-- the least of some pairs, if there are any
abbrev pub IsLeastPair : (ℕ → ℕ → Type 0) → Option (ℕ × ℕ) → Type 0
IsLeastPair P None = (a b : ℕ) → P a b → ⊥
IsLeastPair P (Some least) = P least.0 least.1 × ((a b : ℕ) → P a b → IsPairUpTo least.0 least.1 a b)

-- the lesser of a pair and of one that may be missing
pub record IsLesserPair (least : Option (ℕ × ℕ)) (pair result : ℕ × ℕ) : Type 0 where
  pub up_to_pair : IsPairUpTo result.0 result.1 pair.0 pair.1
  pub up_to_least : (other : ℕ × ℕ) → least ≡ Some other → IsPairUpTo result.0 result.1 other.0 other.1
  pub one_of_them : (result ≡ pair) ⊎ (least ≡ Some result)
