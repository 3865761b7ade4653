-- Scaffold: what a pass over the nodes finds at each of them.
use Rattle.std.specs.Prelude.{◌≡◌, ◌≢◌, ℕ, ◌+◌, ◌^◌, ◌<◌, ◌≤◌, ◌⊎◌, List, length, slice_get, slice_index, slice_index_or, Option, Some, None, Result, Ok, Err}
use Rattle.scale_base.specs.declared.limits.TheConstants.{CYCLE_LIMIT}
use Rattle.scale_base.specs.declared.refusal.Refusal.{Refusal}
use Rattle.scale_base.specs.declared.refusal.Refusal.TheVariants.{TooLong}
use Rattle.graph_algorithms.specs.Arcs.{number_in_place}
use Rattle.cost_theory.specs.Graph.{Loops, IsPlain}
use Rattle.cost_theory.specs.Worst.{Numbers, all_of}
use Rattle.flow_graph.specs.FlowGraph.{FlowGraph, graph}
use Rattle.loop_forest.specs.Tree.{LoopView, loops}
use Rattle.cycle_laws.specs.Passes.{plain_at}
use Rattle.worst_cycles.specs.declared.plan.Plan.{Plan}
use Rattle.worst_cycles.specs.declared.visits.Visit.{Visit}
use Rattle.worst_cycles.specs.Needs.{AreEntries, IsNeededFirst, ArePlaces}
use Rattle.worst_cycles.specs.Solved.{AreSolved, charge}

-- ---- before the pass

-- by node, the loop whose header it is
abbrev pub headed_at : List (Option ℕ) → ℕ → Option ℕ
headed_at headed k = slice_index_or headed k None

pub record AreHeaded (t : LoopView) (headed : List (Option ℕ)) : Type 0 where
  pub some : (k j : ℕ) → headed_at headed k ≡ Some j → slice_get t.headers j ≡ Some k
  pub none : (k j : ℕ) → headed_at headed k ≡ None → slice_get t.headers j ≢ Some k

pub record IsWorstPlan (v : FlowGraph) (t : LoopView) (plan : Plan) : Type 0 where
  pub entries : AreEntries v plan.entries.items
  pub order : IsNeededFirst v t.backs plan.entries.items plan.order.items
  pub places : ArePlaces plan.order.items plan.places.items
  pub places_size : length plan.places.items ≡ length v.code.nodes
  pub headed : AreHeaded t plan.headed.items
  pub headed_size : length plan.headed.items ≡ length v.code.nodes

-- ---- visits

abbrev pub visit_at : List Visit → ℕ → Visit
visit_at visits k = slice_index_or visits k (record { plain = 0; turns = 0; iteration = 0 })

-- all turns of the loop whose header a node is, and 0 at other nodes
abbrev pub IsTurnsAt : Loops → Numbers → ℕ → ℕ → Type 0
IsTurnsAt l n at x = ((k : ℕ) × (k < l.loops) × (l.header k ≡ at) × (x ≡ all_of l n k)) ⊎
    (((k : ℕ) → k < l.loops → l.header k ≢ at) × (x ≡ 0))

pub record IsVisit (l : Loops) (n : Numbers) (at : ℕ) (x : Visit) : Type 0 where
  pub plain : x.plain ≡ n.plain at
  pub turns : IsTurnsAt l n at x.turns
  pub iteration : (k : ℕ) → k < l.loops → l.header k ≡ at → x.iteration ≡ n.iteration k

pub record IsSmallVisit (x : Visit) : Type 0 where
  pub plain : x.plain ≤ CYCLE_LIMIT
  pub turns : x.turns ≤ CYCLE_LIMIT
  pub iteration : x.iteration ≤ CYCLE_LIMIT + 2 ^ 32

-- a table by node, with numbers in range
pub record AreVisits (v : FlowGraph) (visits : List Visit) : Type 0 where
  pub size : length visits ≡ length v.code.nodes
  pub small : (k : ℕ) → IsSmallVisit (visit_at visits k)

-- the table has the numbers that are needed for an edge: those of the function that it calls,
abbrev pub IsCallKnown : FlowGraph → Plan → List Visit → Numbers → ℕ → Type 0
IsCallKnown v plan visits n e = (f : ℕ) → (graph v).callee e ≡ Some f → (visit_at visits (number_in_place plan.entries.items f)).plain +
    (visit_at visits (number_in_place plan.entries.items f)).turns ≡ n.worst f

-- and those of the node to which it leads if it is plain
pub record IsEdgeKnown (v : FlowGraph) (t : LoopView) (plan : Plan) (visits : List Visit) (n : Numbers) (e : ℕ) : Type 0 where
  pub called : IsCallKnown v plan visits n e
  pub led : (k at : ℕ) → slice_get v.code.nodes k ≡ Some at → (graph v).target e ≡ Some at → IsPlain (graph v) (loops v t) e →
      IsVisit (loops v t) n at (visit_at visits k)

abbrev pub AreKnownAt : FlowGraph → LoopView → Plan → List Visit → Numbers → ℕ → Type 0
AreKnownAt v t plan visits n at = (e : ℕ) → e < length v.code.edges → (graph v).source e ≡ at → IsEdgeKnown v t plan visits n e

-- x is what a path that enters the node to which an edge leads costs from there on, and 0 where there is none
abbrev pub IsBehind : FlowGraph → List Visit → ℕ → ℕ → Type 0
IsBehind v visits e x =
    ((k : ℕ) × ((graph v).target e ≡ slice_get v.code.nodes k) × (k < length v.code.nodes) ×
    (x ≡ (visit_at visits k).turns + (visit_at visits k).plain)) ⊎
    (((graph v).target e ≡ None) × (x ≡ 0))

-- the edge's charge and a plain path from behind it
abbrev pub over : FlowGraph → LoopView → (ℕ → ℕ) → Numbers → ℕ → ℕ
over v t w n e = charge (graph v) (loops v t) w n e + plain_at n ((graph v).target e)

-- x is what a plain path costs over an edge, and 0 where the edge isn't plain
abbrev pub IsPlainCostOver : FlowGraph → LoopView → (ℕ → ℕ) → Numbers → ℕ → ℕ → Type 0
IsPlainCostOver v t w n e x = (IsPlain (graph v) (loops v t) e × (x ≡ over v t w n e)) ⊎ ((IsPlain (graph v) (loops v t) e → ⊥) × (x ≡ 0))

abbrev pub AreSolvedBy : FlowGraph → LoopView → (ℕ → ℕ) → Numbers → Type 0
AreSolvedBy v t w n = AreSolved (graph v) (loops v t) w n

-- ---- the pass

-- the worst cycles of the program are over the limit
abbrev pub IsOverLimit : FlowGraph → LoopView → (ℕ → ℕ) → Type 0
IsOverLimit v t w = (n : Numbers) → AreSolvedBy v t w n → CYCLE_LIMIT < n.worst 0

-- the table has what is found at the first i nodes of the order
abbrev pub AreVisitedTo : FlowGraph → LoopView → (ℕ → ℕ) → List ℕ → ℕ → List Visit → Type 0
AreVisitedTo v t w order i visits = (n : Numbers) → AreSolvedBy v t w n → (j at : ℕ) → j < i →
    slice_get v.code.nodes (number_in_place order j) ≡ Some at → IsVisit (loops v t) n at (visit_at visits (number_in_place order j))

-- what finding all turns and one iteration of the loop whose header node k is answers
abbrev pub AreTurnsFound : FlowGraph → LoopView → (ℕ → ℕ) → ℕ → Result (ℕ × ℕ) Refusal → Type 0
AreTurnsFound v t w k (Ok x) = (x.0 ≤ CYCLE_LIMIT) × ((n : Numbers) → AreSolvedBy v t w n →
    IsTurnsAt (loops v t) n (slice_index v.code.nodes k) x.0 × ((j : ℕ) → j < (loops v t).loops →
    (loops v t).header j ≡ slice_index v.code.nodes k → x.1 ≡ n.iteration j)) × (x.1 ≤ CYCLE_LIMIT + 2 ^ 32)
AreTurnsFound v t w k (Err refusal) = (refusal ≡ TooLong) × IsOverLimit v t w

-- what finding the numbers of a node answers
abbrev pub IsVisitFound : FlowGraph → LoopView → (ℕ → ℕ) → ℕ → Result Visit Refusal → Type 0
IsVisitFound v t w k (Ok x) = IsSmallVisit x × ((n : Numbers) → AreSolvedBy v t w n → IsVisit (loops v t) n (slice_index v.code.nodes k) x)
IsVisitFound v t w k (Err refusal) = (refusal ≡ TooLong) × IsOverLimit v t w

-- what finding those of all nodes answers
pub record AreAllVisited (v : FlowGraph) (t : LoopView) (w : ℕ → ℕ) (visits : List Visit) : Type 0 where
  pub table : AreVisits v visits
  pub each : (n : Numbers) → AreSolvedBy v t w n → (k at : ℕ) → slice_get v.code.nodes k ≡ Some at →
      IsVisit (loops v t) n at (visit_at visits k)

abbrev pub AreVisitsFound : FlowGraph → LoopView → (ℕ → ℕ) → Result (List Visit) Refusal → Type 0
AreVisitsFound v t w (Ok visits) = AreAllVisited v t w visits
AreVisitsFound v t w (Err refusal) = (refusal ≡ TooLong) × IsOverLimit v t w
