-- Scaffold: what is left at the nodes of a program, the turns round them, and the contexts of its functions, as tables.
use Rattle.std.specs.Prelude.{◌≡◌, ◌≢◌, ℕ, ◌+◌, ◌^◌, ◌<◌, ◌≤◌, ◌⊎◌, true, List, length, slice_get, Some, Result, Ok, Err}
use Rattle.scale_base.specs.declared.limits.TheConstants.{CYCLE_LIMIT}
use Rattle.scale_base.specs.declared.refusal.Refusal.{Refusal}
use Rattle.graph_algorithms.specs.Arcs.{number_in_place}
use Rattle.cost_theory.specs.Graph.{Graph, Loops}
use Rattle.cost_theory.specs.Worst.{Numbers, turns_round, IsReturningCall, context_of}
use Rattle.flow_graph.specs.FlowGraph.{FlowGraph, graph}
use Rattle.loop_forest.specs.Noted.{node_address}
use Rattle.loop_forest.specs.Tree.{LoopView, loops}
use Rattle.worst_cycles.specs.declared.plan.Plan.{Plan}
use Rattle.worst_cycles.specs.declared.parts.LeftParts.{LeftParts}
use Rattle.worst_cycles.specs.Worst.{slack_at, rest_at}
use Rattle.worst_cycles.specs.Visits.{AreSolvedBy}

-- the program has its numbers, and its worst cycles are in range
abbrev pub HasSolved : FlowGraph → LoopView → (ℕ → ℕ) → Type 0
HasSolved v t w = (n : Numbers) × AreSolvedBy v t w n × (n.worst 0 ≤ CYCLE_LIMIT)

-- ---- what is left

-- the loops whose headers stand at place i of the order or behind it
abbrev pub IsHeadedFrom : LoopView → Plan → ℕ → ℕ → Type 0
IsHeadedFrom t plan i k = i ≤ number_in_place plan.places.items (number_in_place t.headers k)

-- x is at most what is left at a node, and at least each of the parts that it is the greatest of, but for loops that are not done
pub record IsLeftTo (l : Loops) (n : Numbers) (Done : ℕ → Type 0) (at x : ℕ) : Type 0 where
  pub under : x ≤ n.left at
  pub over_plain : n.plain at ≤ x
  pub over_closing : (k b : ℕ) → k < l.loops → Done k → l.inside k at ≡ true → l.header k ≢ at → n.closing k at ≡ Some b →
      b + n.left (l.header k) ≤ x + n.iteration k

abbrev pub AreLeftsTo : FlowGraph → LoopView → (ℕ → ℕ) → Plan → ℕ → List ℕ → Type 0
AreLeftsTo v t w plan i left = (n : Numbers) → AreSolvedBy v t w n → (k : ℕ) → k < length v.code.nodes →
    IsLeftTo (loops v t) n (IsHeadedFrom t plan i) (node_address v k) (number_in_place left k)

-- by node, what is left there
pub record AreLefts (v : FlowGraph) (t : LoopView) (w : ℕ → ℕ) (left : List ℕ) : Type 0 where
  pub size : length left ≡ length v.code.nodes
  pub each : (n : Numbers) → AreSolvedBy v t w n → (k : ℕ) → k < length v.code.nodes → number_in_place left k ≡ n.left (node_address v k)

-- what finding it answers: no refusal where the worst cycles are in range
abbrev pub AreLeftsFound : FlowGraph → LoopView → (ℕ → ℕ) → Result (List ℕ) Refusal → Type 0
AreLeftsFound v t w (Ok left) = AreLefts v t w left
AreLeftsFound v t w (Err refusal) = ⊥

-- ---- turns

-- by node, all turns of the loops round it
pub record AreTurnsRound (v : FlowGraph) (t : LoopView) (w : ℕ → ℕ) (around : List ℕ) : Type 0 where
  pub size : length around ≡ length v.code.nodes
  pub each : (n : Numbers) → AreSolvedBy v t w n → (k : ℕ) → k < length v.code.nodes →
      number_in_place around k ≡ turns_round (loops v t) n (Some (node_address v k))

-- ---- contexts

-- x is at most the context of a function, and at least what is left behind each of its calls of a kind that comes back
pub record IsContextTo (g : Graph) (l : Loops) (w : ℕ → ℕ) (n : Numbers) (Done : ℕ → Type 0) (f x : ℕ) : Type 0 where
  pub under : x ≤ n.context f
  pub over : (e : ℕ) → Done e → IsReturningCall g f e → context_of g l w n e ≤ x

-- the edges that start at place i of the order or behind it
abbrev pub IsFromPlace : FlowGraph → Plan → ℕ → ℕ → Type 0
IsFromPlace v plan i e = (k : ℕ) → slice_get v.code.nodes k ≡ Some ((graph v).source e) → i ≤ number_in_place plan.places.items k

abbrev pub AreContextsTo : FlowGraph → LoopView → (ℕ → ℕ) → Plan → ℕ → List ℕ → Type 0
AreContextsTo v t w plan i context = (n : Numbers) → AreSolvedBy v t w n → (f : ℕ) → f < length v.code.functions →
    IsContextTo (graph v) (loops v t) w n (IsFromPlace v plan i) f (number_in_place context f)

-- by function, its context
pub record AreContexts (v : FlowGraph) (t : LoopView) (w : ℕ → ℕ) (context : List ℕ) : Type 0 where
  pub size : length context ≡ length v.code.functions
  pub each : (n : Numbers) → AreSolvedBy v t w n → (f : ℕ) → f < length v.code.functions → number_in_place context f ≡ n.context f

-- contexts are raised to what is left behind the calls at a node
pub record AreContextsRaised (g : Graph) (l : Loops) (w : ℕ → ℕ) (n : Numbers) (at : ℕ) (old new : List ℕ) : Type 0 where
  pub higher : (f : ℕ) → number_in_place old f ≤ number_in_place new f
  pub over : (e f : ℕ) → g.source e ≡ at → IsReturningCall g f e → context_of g l w n e ≤ number_in_place new f
  pub either : (f : ℕ) → (number_in_place new f ≡ number_in_place old f) ⊎ ((e : ℕ) × (g.source e ≡ at) × IsReturningCall g f e ×
      (number_in_place new f ≡ context_of g l w n e))

-- ---- slacks and rests

-- by edge, its slack, and the rest behind it
pub record AreSlacks (v : FlowGraph) (t : LoopView) (w : ℕ → ℕ) (slacks : List ℕ) : Type 0 where
  pub size : length slacks ≡ length v.code.edges
  pub each : (n : Numbers) → AreSolvedBy v t w n → (e : ℕ) → e < length v.code.edges →
      number_in_place slacks e ≡ slack_at (graph v) (loops v t) w n e

pub record AreRestsBehind (v : FlowGraph) (t : LoopView) (w : ℕ → ℕ) (rests : List ℕ) : Type 0 where
  pub size : length rests ≡ length v.code.edges
  pub each : (n : Numbers) → AreSolvedBy v t w n → (e : ℕ) → e < length v.code.edges →
      number_in_place rests e ≡ rest_at (graph v) (loops v t) n e

-- all tables of what is left
pub record AreParts (v : FlowGraph) (t : LoopView) (w : ℕ → ℕ) (parts : LeftParts) : Type 0 where
  pub left : AreLefts v t w parts.left.items
  pub context : AreContexts v t w parts.context.items
  pub slacks : AreSlacks v t w parts.slacks.items
  pub rests : AreRestsBehind v t w parts.rests.items

-- what finding them answers: no refusal where the worst cycles are in range
abbrev pub ArePartsFound : FlowGraph → LoopView → (ℕ → ℕ) → Result LeftParts Refusal → Type 0
ArePartsFound v t w (Ok parts) = AreParts v t w parts
ArePartsFound v t w (Err refusal) = ⊥
