-- The loops of a graph, as lists: what a LoopTree is seen as.
-- A topological order: Knuth, The Art of Computer Programming, 2.2.3.
use Rattle.std.specs.Prelude.{◌≡◌, ◌≢◌, ℕ, ◌<◌, ◌≤◌, ◌↔◌, ◌⊎◌, Bool, true, List, map, length, slice_get, slice_index, Option, Some, None, Result, Ok, Err}
use Rattle.scale_base.specs.declared.refusal.Refusal.{Refusal}
use Rattle.scale_base.specs.declared.refusal.Refusal.TheVariants.{UnboundedCycle}
use Rattle.cost_theory.specs.Graph.{Loops, with_trips, IsPlain, is_back}
use Rattle.cost_theory.specs.Accepted.{IsNode, AreEntered, AreAccepted, IsTooDeep, HaveWholeExtents}
use Rattle.cost_theory.specs.Lists.{body_of}
use Rattle.graph_algorithms.specs.Cycles.{IsCycleBy}
use Rattle.flow_graph.specs.FlowGraph.{FlowGraph, graph}
use Rattle.loop_file.specs.declared.notes.LoopNote.{LoopNote}
use Rattle.loop_file.specs.Kept.{noted_loops, note_at}
use Rattle.loop_forest.specs.Noted.{node_address, loops_by}
use Rattle.loop_forest.specs.Found.{IsAscending}
use Rattle.loop_forest.specs.Refused.{AreNoted, AreLoopsRefused}

pub record LoopView : Type 0 where
  -- by loop: the number of its header's node, how many back edges one entry may take, whether it is counted, how many back edges an entry
  -- takes at least before the loop is left, and the numbers of its nodes
  pub headers : List ℕ
  pub bounds : List ℕ
  pub counted : List Bool
  pub least_trips : List ℕ
  pub bodies : List (List ℕ)
  -- by edge: the loop of which it is a back edge
  pub backs : List (Option ℕ)
  -- by node, and by loop: the least loop round it
  pub innermost : List (Option ℕ)
  pub parent : List (Option ℕ)
  -- the numbers of the nodes, in a topological order of the plain edges
  pub order : List ℕ

-- the loops that the lists stand for
abbrev pub loops : FlowGraph → LoopView → Loops
loops v t = with_trips (loops_by v t.headers t.bounds t.bodies) (λ k. slice_index t.least_trips k)

-- place i of an order holds the number of the node at an address
abbrev pub IsAtPlace : FlowGraph → List ℕ → ℕ → ℕ → Type 0
IsAtPlace v order i at = (k : ℕ) × (slice_get order i ≡ Some k) × (slice_get v.code.nodes k ≡ Some at)

-- the numbers of all nodes, each once, and the source of a plain edge before its target
pub record ArePlainOrdered (v : FlowGraph) (l : Loops) (order : List ℕ) : Type 0 where
  pub within : (i k : ℕ) → slice_get order i ≡ Some k → k < length v.code.nodes
  pub whole : (k : ℕ) → k < length v.code.nodes → (i : ℕ) × (slice_get order i ≡ Some k)
  pub once : (i j k : ℕ) → slice_get order i ≡ Some k → slice_get order j ≡ Some k → i ≡ j
  pub before : (e i j a : ℕ) → e < (graph v).edges → IsPlain (graph v) l e → (graph v).target e ≡ Some a →
      IsAtPlace v order i ((graph v).source e) → IsAtPlace v order j a → i < j

-- of the loops of a kind one that all others of the kind hold, or none where there is no loop of the kind
abbrev pub IsLeastLoop : Loops → (ℕ → Type 0) → Option ℕ → Type 0
IsLeastLoop l Is None = (k : ℕ) → k < l.loops → Is k → ⊥
IsLeastLoop l Is (Some j) = (j < l.loops) × Is j × ((k u : ℕ) → k < l.loops → Is k → l.inside j u ≡ true → l.inside k u ≡ true)

-- the least loop round a node, and round the header of loop j but for j itself
abbrev pub IsInnermost : Loops → ℕ → Option ℕ → Type 0
IsInnermost l at = IsLeastLoop l (λ k. l.inside k at ≡ true)

abbrev pub IsParent : Loops → ℕ → Option ℕ → Type 0
IsParent l j = IsLeastLoop l (λ k. (k ≢ j) × (l.inside k (l.header j) ≡ true))

-- each node of the extent of loop k is in its body
abbrev pub HasWholeExtent : FlowGraph → Loops → (ℕ → ℕ → Bool) → ℕ → Type 0
HasWholeExtent v l extent k = (at : ℕ) → IsNode (graph v) at → extent k at ≡ true → l.inside k at ≡ true

-- How many back edges loop k takes at least before it is left, by what its note says of that: so many where its extent has no nodes but those of
-- its body, and else 0.
pub record IsLeastTrips (v : FlowGraph) (l : Loops) (extent : ℕ → ℕ → Bool) (k at_least trips : ℕ) : Type 0 where
  pub whole : HasWholeExtent v l extent k → trips ≡ at_least
  pub more : (HasWholeExtent v l extent k → ⊥) → trips ≡ 0
  pub turns : 0 < trips → HasWholeExtent v l extent k

-- loops of a graph, accepted with these extents
pub record IsLoopTree (v : FlowGraph) (extent : ℕ → ℕ → Bool) (t : LoopView) : Type 0 where
  pub accepted : AreAccepted (graph v) (loops v t) extent
  pub whole : HaveWholeExtents (graph v) (loops v t) extent
  pub order : ArePlainOrdered v (loops v t) t.order
  -- one of each for each loop
  pub bounds_size : length t.bounds ≡ length t.headers
  pub counted_size : length t.counted ≡ length t.headers
  pub trips_size : length t.least_trips ≡ length t.headers
  pub bodies_size : length t.bodies ≡ length t.headers
  pub parent_size : length t.parent ≡ length t.headers
  pub header : (k h : ℕ) → slice_get t.headers k ≡ Some h → h < length v.code.nodes
  pub bound : (k n : ℕ) → slice_get t.bounds k ≡ Some n → n ≤ 1000000000
  pub trips : (k : ℕ) → slice_index t.least_trips k ≤ slice_index t.bounds k
  pub body : (k : ℕ) → k < length t.headers → IsAscending (length v.code.nodes) (body_of t.bodies k)
  pub parents : (k : ℕ) (o : Option ℕ) → slice_get t.parent k ≡ Some o → IsParent (loops v t) k o
  -- one for each edge, and for each node
  pub backs_size : length t.backs ≡ length v.code.edges
  pub backs : (e k : ℕ) → (slice_get t.backs e ≡ Some (Some k)) ↔ ((e < length v.code.edges) × (k < length t.headers) ×
      (is_back (graph v) (loops v t) k e ≡ true))
  pub innermost_size : length t.innermost ≡ length v.code.nodes
  pub innermost : (k : ℕ) (o : Option ℕ) → slice_get t.innermost k ≡ Some o → IsInnermost (loops v t) (node_address v k) o

-- the loops of notes, numbered as these are
pub record IsTreeOf (v : FlowGraph) (notes : List LoopNote) (t : LoopView) : Type 0 where
  pub tree : IsLoopTree v (noted_loops notes).inside t
  pub headers : map (node_address v) t.headers ≡ map (λ note. note.header) notes
  pub bounds : t.bounds ≡ map (λ note. note.bound) notes
  pub counted : t.counted ≡ map (λ note. note.counted) notes
  pub trips : (k : ℕ) → k < length notes → IsLeastTrips v (loops v t) (noted_loops notes).inside k (note_at notes k).at_least
      (slice_index t.least_trips k)

-- an edge that is no back edge leads from one address to the other
abbrev pub IsPlainStep : FlowGraph → Loops → ℕ → ℕ → Type 0
IsPlainStep v l a b = (e : ℕ) × (e < (graph v).edges) × IsPlain (graph v) l e × ((graph v).source e ≡ a) × ((graph v).target e ≡ Some b)

-- All loops of the notes are entered at their headers alone and none is too deep, and plain edges form a cycle.
pub record IsCycleRefused (v : FlowGraph) (notes : List LoopNote) (refusal : Refusal) : Type 0 where
  pub loops : Loops
  pub noted : AreNoted notes loops
  pub entered : AreEntered (graph v) loops (noted_loops notes).inside
  pub not_deep : (k : ℕ) → k < length notes → IsTooDeep loops k → ⊥
  pub cycle : List ℕ
  pub is_cycle : IsCycleBy (IsPlainStep v loops) cycle
  pub refusal_is : refusal ≡ UnboundedCycle cycle

-- why the loops of notes are refused
abbrev pub IsTreeRefusal : FlowGraph → List LoopNote → Refusal → Type 0
IsTreeRefusal v notes refusal = AreLoopsRefused v notes refusal ⊎ IsCycleRefused v notes refusal

-- what building answers: the loops of the notes, or a refusal
abbrev pub IsTreeBuilt : FlowGraph → List LoopNote → Result LoopView Refusal → Type 0
IsTreeBuilt v notes (Ok t) = IsTreeOf v notes t
IsTreeBuilt v notes (Err refusal) = IsTreeRefusal v notes refusal
