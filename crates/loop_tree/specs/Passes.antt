-- Scaffold: what the passes over the notes of a program's loops find.
use Rattle.std.specs.Prelude.{◌≡◌, ◌≢◌, ℕ, ◌+◌, ◌<◌, ◌≤◌, ◌↔◌, ◌⊎◌, Bool, true, List, length, slice_get, slice_index, Result, Ok, Err, Some}
use Rattle.scale_base.specs.declared.limits.TheConstants.{WORD_LIMIT}
use Rattle.scale_base.specs.declared.refusal.Refusal.{Refusal}
use Rattle.scale_base.specs.declared.refusal.Refusal.TheVariants.{SideEntry, TooDeep}
use Rattle.cost_theory.specs.Graph.{sum_below, only}
use Rattle.cost_theory.specs.Accepted.{IsInBody}
use Rattle.cost_theory.specs.Lists.{body_of}
use Rattle.flow_graph.specs.FlowGraph.{FlowGraph, graph, IsFlowGraph}
use Rattle.graph_algorithms.specs.declared.bodies.extent.LoopExtent.{LoopExtent}
use Rattle.graph_algorithms.specs.declared.bodies.extent.NodeRange.{NodeRange}
use Rattle.graph_algorithms.specs.Bodies as bodies
use Rattle.graph_algorithms.specs.Bodies.{IsIn, AreNodes, IsSideEdge}
use Rattle.graph_algorithms.specs.Edges.{EdgeView}
use Rattle.graph_algorithms.specs.Groups.{HasBit, IsFlagged}
use Rattle.loop_file.specs.declared.notes.LoopNote.{LoopNote}
use Rattle.loop_file.specs.Kept as kept
use Rattle.loop_file.specs.Kept.{note_at}
use Rattle.flow_graph.specs.Ends.{AreEdgeEnds}
use Rattle.loop_forest.specs.Noted.{header_address, IsBodyNode, HasBackEdge, IsNotedSideEntry}
use Rattle.loop_forest.specs.Found.{IsAscending}
use Rattle.loop_forest.specs.Refused.{IsHeaderRefused, AreHeaders, IsBackEdgeRefused, IsEntryRefused}

-- so many numbers below a count have addresses below one
pub record IsCountBelow (nodes : List ℕ) (at n : ℕ) : Type 0 where
  pub below : (k a : ℕ) → k < n → slice_get nodes k ≡ Some a → a < at
  pub above : (k a : ℕ) → n ≤ k → slice_get nodes k ≡ Some a → at ≤ a

-- what is so of the graph of a program
pub record IsSmallGraph (v : FlowGraph) : Type 0 where
  pub flow : IsFlowGraph v
  pub few : length v.code.nodes ≤ WORD_LIMIT

-- by loop, the number of its header's node
pub record AreHeaderNumbers (v : FlowGraph) (notes : List LoopNote) (headers : List ℕ) : Type 0 where
  pub few : length notes ≤ 4096
  pub size : length headers ≡ length notes
  pub at : (k : ℕ) → k < length notes → slice_get v.code.nodes (slice_index headers k) ≡ Some (header_address notes k)

abbrev pub AreHeadersFound : FlowGraph → List LoopNote → Result (List ℕ) Refusal → Type 0
AreHeadersFound v notes (Ok headers) = AreHeaderNumbers v notes headers
AreHeadersFound v notes (Err refusal) = IsHeaderRefused v notes refusal

-- loops j and k, numbered in this order, have one header
abbrev pub HaveOneNumber : List ℕ → ℕ → ℕ → Type 0
HaveOneNumber headers j k = (j < k) × (k < length headers) × (slice_index headers j ≡ slice_index headers k)

-- the ends of the edges of a program's graph
pub record AreGraphEdges (v : FlowGraph) (edges : EdgeView) : Type 0 where
  pub graph : IsSmallGraph v
  pub ends : AreEdgeEnds v edges.sources edges.targets
  pub count : edges.count ≡ length v.code.nodes

-- the same, and notes of loops with different headers, which are at these nodes
pub record IsReady (v : FlowGraph) (search : EdgeView) (notes : List LoopNote) (headers : List ℕ) : Type 0 where
  pub edges : AreGraphEdges v search
  pub few : length notes ≤ 4096
  pub numbers : AreHeaderNumbers v notes headers
  pub apart : AreHeaders v notes

-- the ranges of nodes have those in a note's extent
abbrev pub IsExtent : FlowGraph → LoopNote → List NodeRange → Type 0
IsExtent v note extent = (k at : ℕ) → slice_get v.code.nodes k ≡ Some at → bodies.in_node_ranges extent k ≡ kept.in_extent note at

-- the loops of the notes from one number up to another
pub record AreExtents (v : FlowGraph) (notes : List LoopNote) (headers : List ℕ) (first last : ℕ) (loops : List LoopExtent) : Type 0 where
  pub size : first + length loops ≡ last
  pub at : (i : ℕ) (loop : LoopExtent) → slice_get loops i ≡ Some loop → (loop.header ≡ slice_index headers (first + i)) ×
      IsExtent v (note_at notes (first + i)) loop.ranges.items

-- a node is in the body of a note's loop
abbrev pub IsBodyNodeOf : FlowGraph → LoopNote → ℕ → Type 0
IsBodyNodeOf v note at = IsInBody (graph v) note.header (kept.in_extent note) at

-- an edge leads from its body to its header
abbrev pub GoesBack : FlowGraph → LoopNote → Type 0
GoesBack v note = (e : ℕ) × (e < (graph v).edges) × IsBodyNodeOf v note ((graph v).source e) × ((graph v).target e ≡ Some note.header)

-- the numbers of the nodes in the body of a note's loop
pub record IsNumberedBody (v : FlowGraph) (note : LoopNote) (body : List ℕ) : Type 0 where
  pub nodes : AreNodes (length v.code.nodes) body
  pub exact : (i at : ℕ) → slice_get v.code.nodes i ≡ Some at → IsIn body i ↔ IsBodyNodeOf v note at

-- the nodes of a body are of its header's function
abbrev pub AreOwned : FlowGraph → ℕ → List ℕ → Type 0
AreOwned v header body = (i at : ℕ) → IsIn body i → slice_get v.code.nodes i ≡ Some at →
    (graph v).owner at ≡ (graph v).owner (slice_index v.code.nodes header)

abbrev pub IsFunctionEntry : FlowGraph → ℕ → Type 0
IsFunctionEntry v i = (f : ℕ) × (f < (graph v).functions) × (slice_get v.code.nodes i ≡ Some ((graph v).entry f))

-- an edge leads into a body past its header; or the entry of a function lies there, and stands for both ends
abbrev pub IsSidePair : FlowGraph → EdgeView → ℕ → List ℕ → ℕ → ℕ → Type 0
IsSidePair v edges header body from to = IsSideEdge edges.sources edges.targets header body from to ⊎
    ((from ≡ to) × IsIn body to × (to ≢ header) × IsFunctionEntry v to)

abbrev pub AreBackEdgesFound : FlowGraph → List LoopNote → Result Unit Refusal → Type 0
AreBackEdgesFound v notes (Ok x) = (k : ℕ) → k < length notes → HasBackEdge v notes k
AreBackEdgesFound v notes (Err refusal) = IsBackEdgeRefused v notes refusal

-- by node, in how many of the first n bodies it is
pub record AreDepths (v : FlowGraph) (notes : List LoopNote) (n : ℕ) (depths : List ℕ) : Type 0 where
  pub size : length depths ≡ length v.code.nodes
  pub inside : ℕ → ℕ → Bool
  pub bodies : (k at : ℕ) → k < n → (inside k at ≡ true) ↔ IsBodyNode v notes k at
  pub counted : (i at : ℕ) → slice_get v.code.nodes i ≡ Some at → slice_index depths i ≡ sum_below n (λ k. only (inside k at) 1)

-- An edge enters the body of loop i of a group past its header, or the entry of the header's function lies in the body, and isn't the header.
abbrev pub IsEnteredBit : FlowGraph → List ℕ → ℕ → ℕ → ℕ → Type 0
IsEnteredBit v bodies aside header i = HasBit aside i ⊎
    ((entry : ℕ) × (slice_get v.code.nodes entry ≡ Some ((graph v).entry ((graph v).owner (slice_index v.code.nodes header)))) ×
    (entry ≢ header) × IsFlagged bodies entry i)

-- the body of loop k is entered aside by this pair of addresses, and by no lesser one
pub record IsEnteredBy (v : FlowGraph) (notes : List LoopNote) (k : ℕ) (refusal : Refusal) : Type 0 where
  pub from : ℕ
  pub to : ℕ
  pub entered : IsNotedSideEntry v notes k from to
  pub least : (a b : ℕ) → IsNotedSideEntry v notes k a b → (from < a) ⊎ ((from ≡ a) × (to ≤ b))
  pub refusal_is : refusal ≡ SideEntry (k + 1) from to

-- the body of loop k isn't entered aside, or it is refused
abbrev pub IsEntryTested : FlowGraph → List LoopNote → ℕ → Result Unit Refusal → Type 0
IsEntryTested v notes k (Ok x) = (a b : ℕ) → IsNotedSideEntry v notes k a b → ⊥
IsEntryTested v notes k (Err refusal) = IsEnteredBy v notes k refusal

-- the first n bodies are not entered aside, and are counted
pub record AreEnteredBelow (v : FlowGraph) (notes : List LoopNote) (n : ℕ) (depths : List ℕ) : Type 0 where
  pub none : (k a b : ℕ) → k < n → IsNotedSideEntry v notes k a b → ⊥
  pub counts : AreDepths v notes n depths

abbrev pub IsGroupEntered : FlowGraph → List LoopNote → ℕ → List ℕ → Result Unit Refusal → Type 0
IsGroupEntered v notes n depths (Ok x) = AreEnteredBelow v notes n depths
IsGroupEntered v notes n depths (Err refusal) = IsEntryRefused v notes refusal

-- no body is entered aside
pub record AreEntriesFound (v : FlowGraph) (notes : List LoopNote) (depths : List ℕ) : Type 0 where
  pub none : (k from to : ℕ) → k < length notes → IsNotedSideEntry v notes k from to → ⊥
  pub counts : AreDepths v notes (length notes) depths

abbrev pub AreEntriesTested : FlowGraph → List LoopNote → Result (List ℕ) Refusal → Type 0
AreEntriesTested v notes (Ok depths) = AreEntriesFound v notes depths
AreEntriesTested v notes (Err refusal) = IsEntryRefused v notes refusal

-- the first header that is in more than 16 bodies is refused
abbrev pub depth_at : List ℕ → List ℕ → ℕ → ℕ
depth_at headers depths k = slice_index depths (slice_index headers k)

pub record IsDeepest (headers depths : List ℕ) (refusal : Refusal) : Type 0 where
  pub k : ℕ
  pub within : k < length headers
  pub deep : 16 < depth_at headers depths k
  pub first : (j : ℕ) → j < k → depth_at headers depths j ≤ 16
  pub refusal_is : refusal ≡ TooDeep (k + 1)

abbrev pub AreShallow : List ℕ → List ℕ → Result Unit Refusal → Type 0
AreShallow headers depths (Ok x) = (k : ℕ) → k < length headers → depth_at headers depths k ≤ 16
AreShallow headers depths (Err refusal) = IsDeepest headers depths refusal

-- by loop, its body, whose nodes ascend
pub record AreBodies (v : FlowGraph) (notes : List LoopNote) (n : ℕ) (bodies : List (List ℕ)) : Type 0 where
  pub size : length bodies ≡ n
  pub body : (k : ℕ) → k < n → IsNumberedBody v (note_at notes k) (body_of bodies k) × IsAscending (length v.code.nodes) (body_of bodies k)
