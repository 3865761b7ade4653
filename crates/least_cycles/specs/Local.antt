-- Scaffold: the edges of some nodes of a graph, as hops between its nodes by number.
use Rattle.std.specs.Prelude.{◌≡◌, ◌⊎◌, ℕ, ◌+◌, ◌<◌, Bool, true, false, List, length, slice_get, Option, Some, None, nat_le, cond}
use Rattle.cost_theory.specs.Graph.{Graph}
use Rattle.least_cycles.specs.declared.Hop.{Hop}
use Rattle.least_cycles.specs.declared.Way.{Way}
use Rattle.least_cycles.specs.declared.Way.TheVariants.{Last, To, Stop}

-- where an edge leads, by numbers in a list of nodes, and by tests of the edges that are the last of a run and of those that lead on
abbrev pub IsWayOf : Graph → (ℕ → Bool) → (ℕ → Bool) → List ℕ → Way → ℕ → Type 0
IsWayOf g last step nodes Last e = (last e ≡ true) × (step e ≡ false)
IsWayOf g last step nodes (To j) e = (last e ≡ false) × (step e ≡ true) × ((u : ℕ) × (g.target e ≡ Some u) × (slice_get nodes j ≡ Some u))
IsWayOf g last step nodes Stop e = (last e ≡ false) × ((step e ≡ false) ⊎ (g.target e ≡ None))

pub record IsHopOf (g : Graph) (last step : ℕ → Bool) (c : ℕ → ℕ) (nodes : List ℕ) (h : Hop) (e : ℕ) : Type 0 where
  pub tail : slice_get nodes h.tail ≡ Some (g.source e)
  pub way : IsWayOf g last step nodes h.way e
  pub cost : h.cost ≡ c e

-- some nodes, each once, their edges, and the hops of these
pub record AreLocal (g : Graph) (last step : ℕ → Bool) (c : ℕ → ℕ) (nodes edges : List ℕ) (hops : List Hop) : Type 0 where
  pub once : (i j v : ℕ) → slice_get nodes i ≡ Some v → slice_get nodes j ≡ Some v → i ≡ j
  pub edge : (i e : ℕ) → slice_get edges i ≡ Some e → e < g.edges
  pub all : (e j : ℕ) → e < g.edges → slice_get nodes j ≡ Some (g.source e) → (i : ℕ) × (slice_get edges i ≡ Some e)
  pub hop : (i e : ℕ) → slice_get edges i ≡ Some e → (h : Hop) × (slice_get hops i ≡ Some h) × IsHopOf g last step c nodes h e
  pub no_more : (i : ℕ) → i < length hops → (e : ℕ) × (slice_get edges i ≡ Some e)

-- the lesser of two numbers that may be absent, and their sum
abbrev pub lesser_cost : Option ℕ → Option ℕ → Option ℕ
lesser_cost None o = o
lesser_cost (Some x) None = Some x
lesser_cost (Some x) (Some y) = cond (nat_le x y) (Some x) (Some y)

abbrev pub sum_of_both : Option ℕ → Option ℕ → Option ℕ
sum_of_both None o = None
sum_of_both (Some x) None = None
sum_of_both (Some x) (Some y) = Some (x + y)
