-- Scaffold: the charges of loops, function by function and in each of them the innermost loops first.
use Rattle.std.specs.Prelude.{◌≡◌, ◌≢◌, ℕ, ◌+◌, ◌*◌, ◌^◌, ◌<◌, ◌≤◌, ◌↔◌, Bool, true, false, List, length, slice_get, slice_index, Option, Some, None}
use Rattle.graph_algorithms.specs.Arcs.{number_in_place, AreDistinct}
use Rattle.cost_theory.specs.Graph.{is_back}
use Rattle.cost_theory.specs.Worst.{at_some}
use Rattle.cost_theory.specs.Least.{IsExit, least_cost}
use Rattle.cost_theory.specs.LeastTurns.{turn_step, turn_last}
use Rattle.flow_graph.specs.FlowGraph.{FlowGraph, graph, IsFlowGraph}
use Rattle.loop_forest.specs.Noted.{node_address}
use Rattle.loop_forest.specs.Tree.{LoopView, loops, IsLoopTree}
use Rattle.graph_algorithms.specs.Keys.{ChainView, option_at, AreChains}
use Rattle.cycle_laws.specs.Charged.{Charged, AreCharged, charged_trips, charge_of}
use Rattle.least_cycles.specs.declared.charges.Charges.{Charges}
use Rattle.least_cycles.specs.declared.plan.Plan.{Plan}
use Rattle.least_cycles.specs.declared.turns.Marks.{Marks}
use Rattle.least_cycles.specs.declared.walks.Scratch.{Scratch}
use Rattle.least_cycles.specs.Functions.{is_in_flags, IsNodeFlagged, AreRanksIn}
use Rattle.least_cycles.specs.Tables.{AreNodeChains, AreReturns, AreLeading, AreFunctionLimits, AreWalksOf, AreScratch}
use Rattle.scale_base.specs.declared.limits.TheConstants.{CYCLE_LIMIT}

-- ---- the numbers

-- a loop's charge: the turns that it has to take, each at the least cost of one
abbrev pub loop_charge : FlowGraph → LoopView → Charged → ℕ → ℕ
loop_charge v t n k = charged_trips (graph v) (loops v t) n.least k * n.turn k

-- an edge's weight with its charge
abbrev pub own_by : FlowGraph → LoopView → (ℕ → ℕ) → Charged → ℕ → ℕ
own_by v t w n e = w e + charge_of (graph v) (loops v t) n e

-- the least cycles of a graph with its loops under weights, and what holds them in range
pub record IsCharging (v : FlowGraph) (t : LoopView) (w : ℕ → ℕ) (n : Charged) : Type 0 where
  pub flow : IsFlowGraph v
  pub extent : ℕ → ℕ → Bool
  pub tree : IsLoopTree v extent t
  pub numbers : AreCharged (graph v) (loops v t) w n
  pub limit : ℕ → ℕ
  pub limits : AreFunctionLimits (graph v) (own_by v t w n) limit
  pub turns : (k : ℕ) → k < length t.headers → 0 < slice_index t.least_trips k → n.turn k ≤ CYCLE_LIMIT
  pub charges : (k : ℕ) → k < length t.headers → loop_charge v t n k ≤ CYCLE_LIMIT

abbrev pub HasCharging : FlowGraph → LoopView → (ℕ → ℕ) → Type 0
HasCharging v t w = (n : Charged) × IsCharging v t w n

-- the tables hold the least costs to a return and to an exit, with charges
abbrev pub HasWalks : FlowGraph → LoopView → (ℕ → ℕ) → (ℕ → Type 0) → List (Option ℕ) → List (Option ℕ) → Type 0
HasWalks v t w Done returns exits = (n : Charged) → (is : IsCharging v t w n) → AreWalksOf v (own_by v t w n) is.limit Done returns exits

-- ---- the loops that edges enter

-- by node, the loop whose header it is
pub record AreHeaderLoops (t : LoopView) (heads : List (Option ℕ)) : Type 0 where
  pub some : (k l : ℕ) → option_at heads k ≡ Some l → slice_get t.headers l ≡ Some k
  pub none : (k l : ℕ) → option_at heads k ≡ None → slice_get t.headers l ≢ Some k

-- an edge leads from outside to the header of loop l
abbrev pub IsInto : FlowGraph → LoopView → ℕ → ℕ → Type 0
IsInto v t e l = (l < length t.headers) × ((graph v).target e ≡ Some ((loops v t).header l)) × (is_back (graph v) (loops v t) l e ≡ false)

pub record IsEntered (v : FlowGraph) (t : LoopView) (e : ℕ) (o : Option ℕ) : Type 0 where
  pub some : (l : ℕ) → o ≡ Some l → IsInto v t e l
  pub none : (l : ℕ) → o ≡ None → IsInto v t e l → ⊥

-- by edge, for the first n edges, the loop that it enters from outside
pub record AreEnteredLoops (v : FlowGraph) (t : LoopView) (n : ℕ) (entries : List (Option ℕ)) : Type 0 where
  pub size : length entries ≡ n
  pub each : (e : ℕ) → e < n → IsEntered v t e (option_at entries e)

-- what an edge is charged by the loops that edges enter and the charges of loops, and its cost with that
abbrev pub charge_by : List (Option ℕ) → List ℕ → ℕ → ℕ
charge_by entries found e = at_some (option_at entries e) (number_in_place found)

abbrev pub cost_with : List ℕ → Charges → ℕ → ℕ
cost_with costs charges e = number_in_place costs e + charge_by charges.entries.items charges.found.items e

-- charges by edge, of a limited size
pub record AreSmallCharges (v : FlowGraph) (charges : Charges) : Type 0 where
  pub size : length charges.entries.items ≡ length v.code.edges
  pub within : (e l : ℕ) → option_at charges.entries.items e ≡ Some l → l < length charges.found.items
  pub low : (l : ℕ) → number_in_place charges.found.items l ≤ CYCLE_LIMIT

pub record AreCharges (v : FlowGraph) (t : LoopView) (charges : Charges) : Type 0 where
  pub entered : AreEnteredLoops v t (length v.code.edges) charges.entries.items
  pub size : length charges.found.items ≡ length t.headers
  pub low : (l : ℕ) → number_in_place charges.found.items l ≤ CYCLE_LIMIT

-- the loops that are done have their charges
abbrev pub AreChargedTo : FlowGraph → LoopView → Charged → (ℕ → Type 0) → List ℕ → Type 0
AreChargedTo v t n Done found = (k : ℕ) → k < length t.headers → Done k → number_in_place found k ≡ loop_charge v t n k

-- ---- one loop

-- the function of a loop
abbrev pub loop_owner : FlowGraph → LoopView → ℕ → ℕ
loop_owner v t k = (graph v).owner ((loops v t).header k)

-- the costs of a function's edges without charges, and those that are the last of a walk to an exit
pub record ArePricedAt (v : FlowGraph) (w : ℕ → ℕ) (n : Charged) (f : ℕ) (costs : List ℕ) (lasts : List Bool) : Type 0 where
  pub cost : (e : ℕ) → e < length v.code.edges → (graph v).owner ((graph v).source e) ≡ f →
      number_in_place costs e ≡ least_cost (graph v) w n.least e
  pub last : (e : ℕ) → e < length v.code.edges → (graph v).owner ((graph v).source e) ≡ f →
      IsNodeFlagged lasts e ↔ IsExit (graph v) n.least e

-- loop k lies within loop l, and is another
abbrev pub IsInner : FlowGraph → LoopView → ℕ → ℕ → Type 0
IsInner v t l k = (k ≢ l) × ((loops v t).inside l ((loops v t).header k) ≡ true)

-- what is known where a loop's charge is found: the costs in its function, and the charges of the loops within it
pub record IsChargeKnown (v : FlowGraph) (t : LoopView) (w : ℕ → ℕ) (n : Charged) (l : ℕ) (costs : List ℕ) (lasts : List Bool)
    (found : List ℕ) : Type 0 where
  pub charging : IsCharging v t w n
  pub priced : ArePricedAt v w n (loop_owner v t l) costs lasts
  pub inner : AreChargedTo v t n (IsInner v t l) found

-- the numbers of the nodes of a loop's body
pub record IsBodyOf (v : FlowGraph) (t : LoopView) (l : ℕ) (nodes : List ℕ) : Type 0 where
  pub within : (i : ℕ) → i < length nodes → number_in_place nodes i < length v.code.nodes
  pub inside : (i : ℕ) → i < length nodes → (loops v t).inside l (node_address v (number_in_place nodes i)) ≡ true
  pub whole : (k : ℕ) → k < length v.code.nodes → (loops v t).inside l (node_address v k) ≡ true → (i : ℕ) × (i < length nodes) ×
      (number_in_place nodes i ≡ k)
  pub once : AreDistinct nodes

-- flags of the edges of a set that end a turn of a loop, and of those that go on within it
pub record AreTurnKinds (v : FlowGraph) (t : LoopView) (l : ℕ) (Set : ℕ → Type 0) (turns stays : List Bool) : Type 0 where
  pub turns_size : length turns ≡ length v.code.edges
  pub stays_size : length stays ≡ length v.code.edges
  pub turn : (e : ℕ) → e < length v.code.edges → Set e → is_in_flags turns e ≡ turn_last (graph v) (loops v t) l e
  pub stay : (e : ℕ) → e < length v.code.edges → Set e → is_in_flags stays e ≡ turn_step (graph v) (loops v t) l e

pub record AreChargeMarks (v : FlowGraph) (marks : Marks) : Type 0 where
  pub spots : length marks.spots.items ≡ length v.code.nodes
  pub turns : length marks.turns.items ≡ length v.code.edges
  pub stays : length marks.stays.items ≡ length v.code.edges

-- ---- the loops of functions

-- of the node at each of the first n places of an order its function, where it is the header of a loop
abbrev pub header_key : Option ℕ → ℕ → Option ℕ
header_key None f = None
header_key (Some l) f = Some f

pub record AreHeaderKeys (v : FlowGraph) (order : List ℕ) (heads : List (Option ℕ)) (n : ℕ) (keys : List (Option ℕ)) : Type 0 where
  pub size : length keys ≡ n
  pub each : (i : ℕ) → i < n → option_at keys i ≡ header_key (option_at heads (number_in_place order i))
      ((graph v).owner (node_address v (number_in_place order i)))

-- the chains of the places of headers by functions
abbrev pub AreHeaderChains : FlowGraph → List ℕ → List (Option ℕ) → ChainView → Type 0
AreHeaderChains v order heads chains = (keys : List (Option ℕ)) × AreHeaderKeys v order heads (length order) keys ×
    AreChains keys (length v.code.functions) chains

-- a loop of function f whose header stands at a place from some one on
abbrev pub IsHeaderFrom : FlowGraph → LoopView → ℕ → ℕ → ℕ → Type 0
IsHeaderFrom v t f from k = (loop_owner v t k ≡ f) × ((i : ℕ) × (from ≤ i) × (slice_get t.order i ≡ Some (number_in_place t.headers k)))

-- ---- all functions

pub record IsChargePlan (v : FlowGraph) (t : LoopView) (plan : Plan) : Type 0 where
  pub own_size : length plan.own.items ≡ length v.code.edges
  pub own_low : (e : ℕ) → number_in_place plan.own.items e ≤ CYCLE_LIMIT
  pub nodes : AreNodeChains v plan.nodes
  pub ranks : AreRanksIn t.order plan.ranks.items
  pub returning : AreReturns v (length v.code.edges) plan.returning.items
  pub leading : AreLeading v (length v.code.edges) plan.leading.items
  pub heads_size : length plan.heads.items ≡ length v.code.nodes
  pub heads : AreHeaderLoops t plan.heads.items
  pub headers : AreHeaderChains v t.order plan.heads.items plan.headers

pub record IsScratch (v : FlowGraph) (scratch : Scratch) : Type 0 where
  pub places : length scratch.places.items ≡ length v.code.nodes
  pub priced : AreScratch v scratch.costs.items scratch.lasts.items
  pub marks : AreChargeMarks v scratch.marks
