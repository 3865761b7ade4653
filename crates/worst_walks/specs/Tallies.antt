-- Scaffold: sums over lists, as passes over them find them.
use Rattle.std.specs.Prelude.{◌≡◌, ℕ, ◌*◌, ◌<◌, List, length, slice_get, slice_index_or, Option, Some, None}
use Rattle.cost_theory.specs.Graph.{sum_below, only, total}
use Rattle.cost_theory.specs.Lists.{body_of}
use Rattle.graph_algorithms.specs.Arcs.{number_in_place}
use Rattle.flow_graph.specs.FlowGraph.{FlowGraph}
use Rattle.walk_laws.specs.Walks.{is_number}

abbrev pub key_at : List (Option ℕ) → ℕ → Option ℕ
key_at keys e = slice_index_or keys e None

-- by number below a count: the costs that have it as their key, each so many times
pub record IsTally (count : ℕ) (keys : List (Option ℕ)) (times costs table : List ℕ) : Type 0 where
  pub size : length table ≡ count
  pub each : (k : ℕ) → k < count →
      number_in_place table k ≡ sum_below (length keys) (λ e. number_in_place times e * only (is_number k (key_at keys e))
      (number_in_place costs e))

-- what edges cost that are taken so often
abbrev pub taken_sum : List ℕ → (ℕ → ℕ) → ℕ
taken_sum taken c = sum_below (length taken) (λ e. number_in_place taken e * c e)

-- what the edges of some lists cost, each list gone so often
abbrev pub lists_sum : ℕ → List (List ℕ) → List ℕ → (ℕ → ℕ) → ℕ
lists_sum n lists times c = sum_below n (λ l. number_in_place times l * total c (body_of lists l))

-- the address of a node, if there is one
abbrev pub place_of : FlowGraph → Option ℕ → Option ℕ
place_of v None = None
place_of v (Some k) = slice_get v.code.nodes k

-- a function, where no loop is given
abbrev pub outside_of : ℕ → Option ℕ → Option ℕ
outside_of f None = Some f
outside_of f (Some k) = None
