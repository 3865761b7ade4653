-- Scaffold: what a LoopTree is seen as by its parts, and what every LoopTree keeps.
use Rattle.std.specs.Prelude.{◌≡◌, ℕ, ◌<◌, ◌≤◌, List, length, slice_get, slice_index, Some}
use Rattle.graph_algorithms.specs.Nesting.{bodies_of}
use Rattle.cost_theory.specs.Lists.{body_of}
use Rattle.loop_forest.specs.declared.parts.LoopParts.{LoopParts}
use Rattle.loop_forest.specs.Tree.{LoopView}

abbrev pub parts_seen : LoopParts → LoopView
parts_seen p = record {
  headers = p.headers.items;
  bounds = p.bounds.items;
  counted = p.counted.items;
  least_trips = p.least_trips.items;
  bodies = bodies_of p.bodies.items;
  backs = p.backs.items;
  innermost = p.innermost.items;
  parent = p.parent.items;
  order = p.order.items;
}

-- each number is less than those behind it
abbrev pub IsRising : List ℕ → Type 0
IsRising numbers = (i j x y : ℕ) → i < j → slice_get numbers i ≡ Some x → slice_get numbers j ≡ Some y → x < y

-- at most 4,096 loops, one of each list's items for each loop, bounds that are kept, and ascending bodies
pub record IsStoredTree (t : LoopView) : Type 0 where
  pub few : length t.headers ≤ 4096
  pub bounds : length t.bounds ≡ length t.headers
  pub counted : length t.counted ≡ length t.headers
  pub trips : length t.least_trips ≡ length t.headers
  pub trips_fit : (k : ℕ) → slice_index t.least_trips k ≤ slice_index t.bounds k
  pub bodies : length t.bodies ≡ length t.headers
  pub parent : length t.parent ≡ length t.headers
  pub ascending : (k : ℕ) → IsRising (body_of t.bodies k)
