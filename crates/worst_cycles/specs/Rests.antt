-- Scaffold: the rests of an iteration of a loop, by the places of its body's nodes in an order.
use Rattle.std.specs.Prelude.{◌≡◌, ◌≢◌, ℕ, ◌+◌, ◌^◌, ◌<◌, ◌≤◌, ◌↔◌, ◌⊎◌, Bool, true, false, List, length, slice_get, slice_index_or, Option, Some, None, Result, Ok, Err}
use Rattle.scale_base.specs.declared.limits.TheConstants.{CYCLE_LIMIT}
use Rattle.scale_base.specs.declared.refusal.Refusal.{Refusal}
use Rattle.scale_base.specs.declared.refusal.Refusal.TheVariants.{TooLong}
use Rattle.graph_algorithms.specs.Arcs.{number_in_place}
use Rattle.cost_theory.specs.Graph.{Loops, IsPlain}
use Rattle.cost_theory.specs.Worst.{Numbers, cost}
use Rattle.cost_theory.specs.Lists.{body_of}
use Rattle.flow_graph.specs.FlowGraph.{FlowGraph, graph}
use Rattle.loop_forest.specs.Noted.{node_address}
use Rattle.loop_forest.specs.Tree.{LoopView, loops}
use Rattle.cycle_laws.specs.Passes.{IsRestOver}
use Rattle.worst_cycles.specs.declared.plan.Plan.{Plan}
use Rattle.worst_cycles.specs.declared.rests.Rests.{Rests}
use Rattle.worst_cycles.specs.declared.visits.Visit.{Visit}
use Rattle.worst_cycles.specs.Visits.{visit_at, IsCallKnown, AreSolvedBy, IsOverLimit}

-- ---- the places of a body

-- the places of the nodes of a body, ascending
pub record AreBodyPlaces (body places steps : List ℕ) : Type 0 where
  pub rise : (i j : ℕ) → i ≤ j → j < length steps → number_in_place steps i ≤ number_in_place steps j
  pub each : (m : ℕ) → m < length steps → (i : ℕ) × (i < length body) × (number_in_place steps m ≡ number_in_place places
      (number_in_place body i))
  pub whole : (i : ℕ) → i < length body → (m : ℕ) × (m < length steps) × (number_in_place steps m ≡ number_in_place places
      (number_in_place body i))

-- ---- rests

abbrev pub rest_in : List (Option ℕ) → ℕ → Option ℕ
rest_in found m = slice_index_or found m None

-- rests of the first places, with numbers in range
pub record AreRests (rests : Rests) : Type 0 where
  pub rise : (i j : ℕ) → i ≤ j → j < length rests.steps.items → number_in_place rests.steps.items i ≤ number_in_place rests.steps.items j
  pub small : (m b : ℕ) → rest_in rests.found.items m ≡ Some b → b ≤ CYCLE_LIMIT + 2 ^ 32

-- what they have of the node at a place: its rest, or none where the place isn't among theirs or its rest isn't found yet
abbrev pub IsRestOf : Rests → ℕ → Option ℕ → Type 0
IsRestOf rests place o =
    ((m : ℕ) × (m < length rests.found.items) × (m < length rests.steps.items) × (number_in_place rests.steps.items m ≡ place) ×
    (o ≡ rest_in rests.found.items m)) ⊎
    ((o ≡ None) × (((m : ℕ) → m < length rests.steps.items → number_in_place rests.steps.items m ≢ place) ⊎
    ((m : ℕ) × (length rests.found.items ≤ m) × (m < length rests.steps.items) × (number_in_place rests.steps.items m ≡ place))))

-- the edge's cost with all turns of the loop that it enters, added to a rest
abbrev pub IsAdded : FlowGraph → Plan → (ℕ → ℕ) → List Visit → ℕ → ℕ → Option ℕ → Option ℕ → Type 0
IsAdded v plan w visits e k None o = o ≡ None
IsAdded v plan w visits e k (Some b) o = (c : ℕ) × (o ≡ Some (c + (visit_at visits k).turns + b)) ×
    ((n : Numbers) → IsCallKnown v plan visits n e → c ≡ cost (graph v) n w e)

-- o is what they have for an edge: the rest of the node to which it leads, with the edge added, if there is one
abbrev pub IsRestPast : FlowGraph → Plan → (ℕ → ℕ) → List Visit → Rests → ℕ → Option ℕ → Type 0
IsRestPast v plan w visits rests e o =
    ((k : ℕ) × (r : Option ℕ) × ((graph v).target e ≡ slice_get v.code.nodes k) × (k < length v.code.nodes) ×
    IsRestOf rests (number_in_place plan.places.items k) r × IsAdded v plan w visits e k r o) ⊎
    (((graph v).target e ≡ None) × (o ≡ None))

abbrev pub held : Bool → Option ℕ → Option ℕ
held true o = o
held false o = None

-- the rest of an iteration of loop k from a node, none outside its body
abbrev pub closing_at : Loops → Numbers → ℕ → ℕ → Option ℕ
closing_at l n k at = held (l.inside k at) (n.closing k at)

-- they have the rest of the node to which an edge leads if it is plain
abbrev pub IsRestKnown : FlowGraph → LoopView → Plan → Rests → Numbers → ℕ → ℕ → Type 0
IsRestKnown v t plan rests n k e = (u at : ℕ) (o : Option ℕ) → slice_get v.code.nodes u ≡ Some at → (graph v).target e ≡ Some at →
    IsPlain (graph v) (loops v t) e →
    IsRestOf rests (number_in_place plan.places.items u) o → o ≡ closing_at (loops v t) n k at

abbrev pub AreRestsKnownAt : FlowGraph → LoopView → Plan → Rests → Numbers → ℕ → ℕ → Type 0
AreRestsKnownAt v t plan rests n k at = (e : ℕ) → e < length v.code.edges → (graph v).source e ≡ at → IsRestKnown v t plan rests n k e

-- o is the rest of an iteration of loop k over an edge, if there is one
abbrev pub IsRestFor : FlowGraph → LoopView → (ℕ → ℕ) → Numbers → ℕ → ℕ → Option ℕ → Type 0
IsRestFor v t w n k e o = (b : ℕ) → (o ≡ Some b) ↔ IsRestOver (graph v) (loops v t) w n k e b

-- the greater of two numbers, if any
pub record IsGreaterOf (one other most : Option ℕ) : Type 0 where
  pub above : (b : ℕ) → (one ≡ Some b) ⊎ (other ≡ Some b) → (m : ℕ) × (most ≡ Some m) × (b ≤ m)
  pub either : (most ≡ one) ⊎ (most ≡ other)

-- ---- the rests of a loop

-- the address of the node at place m of a list of places
abbrev pub address_at : FlowGraph → Plan → List ℕ → ℕ → ℕ
address_at v plan steps m = node_address v (number_in_place plan.order.items (number_in_place steps m))

-- the rests of the first m of these nodes are found
abbrev pub AreFoundTo : FlowGraph → LoopView → (ℕ → ℕ) → Plan → ℕ → List ℕ → ℕ → List (Option ℕ) → Type 0
AreFoundTo v t w plan l steps m found = (n : Numbers) → AreSolvedBy v t w n → (q : ℕ) → q < m →
    rest_in found q ≡ n.closing l (address_at v plan steps q)

-- they are the rests of an iteration of loop l from all nodes of its body
pub record AreRestsOf (v : FlowGraph) (t : LoopView) (w : ℕ → ℕ) (plan : Plan) (l : ℕ) (rests : Rests) : Type 0 where
  pub places : AreBodyPlaces (body_of t.bodies l) plan.places.items rests.steps.items
  pub sizes : length rests.found.items ≡ length rests.steps.items
  pub table : AreRests rests
  pub found : AreFoundTo v t w plan l rests.steps.items (length rests.steps.items) rests.found.items

abbrev pub AreRestsFound : FlowGraph → LoopView → (ℕ → ℕ) → Plan → ℕ → Result Rests Refusal → Type 0
AreRestsFound v t w plan l (Ok rests) = AreRestsOf v t w plan l rests
AreRestsFound v t w plan l (Err refusal) = (refusal ≡ TooLong) × IsOverLimit v t w

-- ---- iterations

abbrev pub IsIterationFound : FlowGraph → LoopView → (ℕ → ℕ) → ℕ → Result ℕ Refusal → Type 0
IsIterationFound v t w k (Ok x) = (x ≤ CYCLE_LIMIT + 2 ^ 32) × ((n : Numbers) → AreSolvedBy v t w n → x ≡ n.iteration k)
IsIterationFound v t w k (Err refusal) = (refusal ≡ TooLong) × IsOverLimit v t w
