-- Scaffold: the edges of a graph, by number.
use Rattle.std.specs.Prelude.{◌≡◌, ℕ, ◌<◌, List, length, slice_get, Option, Some}
use Rattle.graph_algorithms.specs.Keys.{ChainView, AreChains}

-- where each edge starts, where it leads, if anywhere, and how many nodes there are
pub record EdgeView : Type 0 where
  pub sources : List ℕ
  pub targets : List (Option ℕ)
  pub count : ℕ

-- edges among nodes below the count
pub record AreEdges (sources : List ℕ) (targets : List (Option ℕ)) (count : ℕ) : Type 0 where
  pub paired : length sources ≡ length targets
  pub from : (e u : ℕ) → slice_get sources e ≡ Some u → u < count
  pub to : (e u : ℕ) → slice_get targets e ≡ Some (Some u) → u < count

-- edges, and their chains by the nodes to which they lead
pub record AreChained (sources : List ℕ) (targets : List (Option ℕ)) (count : ℕ) (view : ChainView) : Type 0 where
  pub edges : AreEdges sources targets count
  pub chains : AreChains targets count view
