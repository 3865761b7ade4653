-- Scaffold: the ways out of a loop, as they are gone through: by the nodes of its body.
use Rattle.std.specs.Prelude.{◌≡◌, ℕ, ◌*◌, ◌<◌, ◌≤◌, ◌⊎◌, Option, Some, None}
use Rattle.graph_algorithms.specs.Arcs.{number_in_place}
use Rattle.power_model.specs.Numbers.{PowerModel}
use Rattle.cost_theory.specs.Lists.{body_of}
use Rattle.level_tables.specs.declared.edge_numbers.EdgeNumbers.{EdgeNumbers}
use Rattle.flow_graph.specs.FlowGraph.{FlowGraph, graph}
use Rattle.loop_forest.specs.Noted.{node_address}
use Rattle.loop_forest.specs.Tree.{LoopView}
use Rattle.level_reasons.specs.declared.ways.Way.{Way}
use Rattle.level_reasons.specs.Reasons.{IsLack, IsNearest, IsWayOut}

-- the ways out that start at one of the first n nodes of the body
pub record IsWayAmong (v : FlowGraph) (t : LoopView) (k n e : ℕ) : Type 0 where
  pub way : IsWayOut v t k e
  pub place : ℕ
  pub before : place < n
  pub starts : (graph v).source e ≡ node_address v (number_in_place (body_of t.bodies k) place)

-- these, and the ways out that are edges from a number on and below another
abbrev pub IsWaySoFar : FlowGraph → LoopView → (k n first end e : ℕ) → Type 0
IsWaySoFar v t k n first end e = IsWayAmong v t k n e ⊎ (IsWayOut v t k e × (first ≤ e) × (e < end))

-- what is kept of a way out
pub record IsWayOf (power : PowerModel) (level : ℕ) (told : EdgeNumbers) (way : Way) : Type 0 where
  pub lack : IsLack power level told way.lack
  pub slack : way.slack ≡ told.slack
  pub left : way.left ≡ told.left

-- the nearest of some ways out, or none where there is no such way
abbrev pub IsNearestKept : PowerModel → ℕ → (ℕ → EdgeNumbers) → (ℕ → Type 0) → Option Way → Type 0
IsNearestKept power level told Is None = (e : ℕ) → Is e → ⊥
IsNearestKept power level told Is (Some way) = (e : ℕ) × IsNearest power level told Is e way.lack × IsWayOf power level (told e) way

-- Of two ways out the one that lacks fewer cycles, and of two that lack as many one with the fewest left behind it.
abbrev pub IsNearerOf : Way → Way → Way → Type 0
IsNearerOf old new way =
    ((way ≡ new) × ((new.lack < old.lack) ⊎ ((new.lack ≡ old.lack) × (new.left < old.left))))
    ⊎ ((way ≡ old) × ((old.lack < new.lack) ⊎ ((old.lack ≡ new.lack) × (old.left ≤ new.left))))

-- the least number of turns, up to a bound, which have so many cycles together
pub record AreTurnsFor (lack turn bound turns : ℕ) : Type 0 where
  pub within : turns ≤ bound
  pub enough : lack ≤ turns * turn
  pub least : (fewer : ℕ) → fewer < turns → fewer * turn < lack
