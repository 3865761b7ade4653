-- Scaffold: the graph that hops stand for, and a table of least costs by node.
use Rattle.std.specs.Prelude.{◌≡◌, ℕ, ◌+◌, ◌*◌, ◌<◌, ◌≤◌, Bool, true, false, cond, nat_lt, List, length, slice_get, slice_set, slice_index_or, Option, Some, None, IfSome}
use Rattle.std.specs.List.{sum_by}
use Rattle.cost_theory.specs.Graph.{Graph, total}
use Rattle.cost_theory.specs.Least.{IsLeastIfAny, EndsWith}
use Rattle.least_cycles.specs.declared.Hop.{Hop}
use Rattle.least_cycles.specs.declared.Way.{Way}
use Rattle.least_cycles.specs.declared.Way.TheVariants.{Last, To, Stop}

abbrev pub way_place : Way → Option ℕ
way_place Last = None
way_place (To v) = Some v
way_place Stop = None

abbrev pub is_last : Way → Bool
is_last Last = true
is_last (To v) = false
is_last Stop = false

abbrev pub hop_tail : Option Hop → ℕ
hop_tail None = 0
hop_tail (Some h) = h.tail

abbrev pub head_of : Option Hop → Option ℕ
head_of None = None
head_of (Some h) = way_place h.way

abbrev pub last_of : Option Hop → Bool
last_of None = false
last_of (Some h) = is_last h.way

abbrev pub hop_cost : Option Hop → ℕ
hop_cost None = 0
hop_cost (Some h) = h.cost

abbrev pub hop_graph : List Hop → Graph
hop_graph hops = record {
  edges = length hops;
  source = λ e. hop_tail (slice_get hops e);
  target = λ e. head_of (slice_get hops e);
  callee = λ e. None;
  returns = λ e. last_of (slice_get hops e);
  exits = λ e. false;
  functions = 1;
  entry = λ f. 0;
  owner = λ v. 0;
}

-- the number of a node, which may be absent
abbrev pub number_in_table : List (Option ℕ) → ℕ → Option ℕ
number_in_table table v = slice_index_or table v None

abbrev pub IsLastHop : List Hop → ℕ → Type 0
IsLastHop hops e = last_of (slice_get hops e) ≡ true

abbrev pub costs : List Hop → ℕ → ℕ
costs hops e = hop_cost (slice_get hops e)

abbrev pub IsWalkFrom : List Hop → ℕ → List ℕ → Type 0
IsWalkFrom hops v es = EndsWith (hop_graph hops) (IsLastHop hops) (Some v) es

-- each entry is the least cost of a walk over a last edge, and absent where there is none
abbrev pub AreLeastCosts : List Hop → List (Option ℕ) → Type 0
AreLeastCosts hops table = (v : ℕ) → IsLeastIfAny (IsWalkFrom hops v) (total (costs hops)) (number_in_table table v)

-- what a hop offers its tail
abbrev pub offer_of_hop : ℕ → Option ℕ → Option ℕ
offer_of_hop c None = None
offer_of_hop c (Some x) = Some (c + x)

abbrev pub offered_by : List (Option ℕ) → ℕ → Way → Option ℕ
offered_by table c Last = Some c
offered_by table c (To v) = offer_of_hop c (number_in_table table v)
offered_by table c Stop = None

abbrev pub offered : List (Option ℕ) → Hop → Option ℕ
offered table h = offered_by table h.cost h.way

abbrev pub is_less : Option ℕ → Option ℕ → Bool
is_less None old = false
is_less (Some x) None = true
is_less (Some x) (Some y) = nat_lt x y

abbrev pub improves : List (Option ℕ) → Hop → Bool
improves table h = is_less (offered table h) (number_in_table table h.tail)

abbrev pub relaxed : List (Option ℕ) → Hop → List (Option ℕ)
relaxed table h = cond (improves table h) (slice_set table h.tail (offered table h)) table

-- hops between the nodes below a count, of at most this cost each
abbrev pub HeadBelow : ℕ → Way → Type 0
HeadBelow n Last = Unit {0}
HeadBelow n (To v) = v < n
HeadBelow n Stop = Unit {0}

pub record IsHop (n most : ℕ) (h : Hop) : Type 0 where
  pub tail : h.tail < n
  pub head : HeadBelow n h.way
  pub cost : h.cost ≤ most

abbrev pub AreHops : ℕ → ℕ → List Hop → Type 0
AreHops n most hops = (e : ℕ) → IfSome (slice_get hops e) (IsHop n most)

abbrev pub absent : Option ℕ → ℕ
absent None = 1
absent (Some x) = 0

-- The numbers of a table: each that is there is the cost of a walk, and at most so many times the greatest cost of a hop as there are numbers.
pub record IsHopTable (n most : ℕ) (hops : List Hop) (table : List (Option ℕ)) : Type 0 where
  pub len : length table ≡ n
  pub few : sum_by absent table ≤ n
  pub reached : (v x : ℕ) → number_in_table table v ≡ Some x → (es : List ℕ) × IsWalkFrom hops v es × (total (costs hops) es ≡ x)
  pub low : (v x : ℕ) → number_in_table table v ≡ Some x → x + sum_by absent table * most ≤ n * most

-- what is left to fall: the numbers, and more for each that is absent
abbrev pub fall_of : ℕ → Option ℕ → ℕ
fall_of big None = big + 1
fall_of big (Some x) = x

abbrev pub fall : ℕ → List (Option ℕ) → ℕ
fall big table = sum_by (fall_of big) table
