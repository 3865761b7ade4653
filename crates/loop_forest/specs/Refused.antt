-- Why the loops of notes are refused. The first cause decides, in this order: a header that isn't reached, two loops with one header, a loop
-- without back edges, a side entry, a loop that is too deep. Of one cause it is the least loop, and then the least other number.
use Rattle.std.specs.Prelude.{◌≡◌, ℕ, ◌+◌, ◌<◌, ◌≤◌, ◌⊎◌, List, length, Result, Ok, Err}
use Rattle.scale_base.specs.declared.refusal.Refusal.{Refusal}
use Rattle.scale_base.specs.declared.refusal.Refusal.TheVariants.{HeaderNotReached, SameHeader, NoBackEdge, SideEntry, TooDeep}
use Rattle.cost_theory.specs.Graph.{Loops}
use Rattle.cost_theory.specs.Accepted.{AreEntered, IsTooDeep}
use Rattle.flow_graph.specs.FlowGraph.{FlowGraph, graph}
use Rattle.loop_file.specs.declared.notes.LoopNote.{LoopNote}
use Rattle.loop_file.specs.Kept.{noted_loops}
use Rattle.loop_forest.specs.Noted.{IsHeaderReached, HaveOneHeader, HasBackEdge, IsNotedSideEntry}
use Rattle.loop_forest.specs.Found.{LoopsView, AreNaturalLoops}

-- the header of loop k isn't reached, and those of the loops before it are
pub record IsHeaderRefused (v : FlowGraph) (notes : List LoopNote) (refusal : Refusal) : Type 0 where
  pub k : ℕ
  pub within : k < length notes
  pub unreached : IsHeaderReached v notes k → ⊥
  pub first : (j : ℕ) → j < k → IsHeaderReached v notes j
  pub refusal_is : refusal ≡ HeaderNotReached (k + 1)

abbrev pub AreHeadersReached : FlowGraph → List LoopNote → Type 0
AreHeadersReached v notes = (k : ℕ) → k < length notes → IsHeaderReached v notes k

-- loops one and two have one header: the least two such loops
pub record IsPairRefused (v : FlowGraph) (notes : List LoopNote) (refusal : Refusal) : Type 0 where
  pub reached : AreHeadersReached v notes
  pub one : ℕ
  pub two : ℕ
  pub within : two < length notes
  pub same : HaveOneHeader notes one two
  pub first : (j k : ℕ) → k < length notes → HaveOneHeader notes j k → (one < j) ⊎ ((one ≡ j) × (two ≤ k))
  pub refusal_is : refusal ≡ SameHeader (one + 1) (two + 1)

-- each header is reached, and they are all different
pub record AreHeaders (v : FlowGraph) (notes : List LoopNote) : Type 0 where
  pub reached : AreHeadersReached v notes
  pub distinct : (j k : ℕ) → k < length notes → HaveOneHeader notes j k → ⊥

-- loop k has no back edge, and the loops before it have one
pub record IsBackEdgeRefused (v : FlowGraph) (notes : List LoopNote) (refusal : Refusal) : Type 0 where
  pub headers : AreHeaders v notes
  pub k : ℕ
  pub within : k < length notes
  pub none : HasBackEdge v notes k → ⊥
  pub first : (j : ℕ) → j < k → HasBackEdge v notes j
  pub refusal_is : refusal ≡ NoBackEdge (k + 1)

-- loop k is entered aside by the least such pair of addresses, and the loops before it are entered at their headers alone
pub record IsEntryRefused (v : FlowGraph) (notes : List LoopNote) (refusal : Refusal) : Type 0 where
  pub headers : AreHeaders v notes
  pub back_edges : (j : ℕ) → j < length notes → HasBackEdge v notes j
  pub k : ℕ
  pub from : ℕ
  pub to : ℕ
  pub within : k < length notes
  pub entered : IsNotedSideEntry v notes k from to
  pub least : (a b : ℕ) → IsNotedSideEntry v notes k a b → (from < a) ⊎ ((from ≡ a) × (to ≤ b))
  pub first : (j a b : ℕ) → j < k → IsNotedSideEntry v notes j a b → ⊥
  pub refusal_is : refusal ≡ SideEntry (k + 1) from to

-- the loops of notes, with these bodies
pub record AreNoted (notes : List LoopNote) (l : Loops) : Type 0 where
  pub count : l.loops ≡ length notes
  pub header : (k : ℕ) → k < length notes → l.header k ≡ (noted_loops notes).header k
  pub bound : (k : ℕ) → k < length notes → l.bound k ≡ (noted_loops notes).bound k

-- all are entered at their headers alone, loop k is too deep, and the loops before it are not
pub record IsDepthRefused (v : FlowGraph) (notes : List LoopNote) (refusal : Refusal) : Type 0 where
  pub loops : Loops
  pub noted : AreNoted notes loops
  pub entered : AreEntered (graph v) loops (noted_loops notes).inside
  pub k : ℕ
  pub within : k < length notes
  pub deep : IsTooDeep loops k
  pub first : (j : ℕ) → j < k → IsTooDeep loops j → ⊥
  pub refusal_is : refusal ≡ TooDeep (k + 1)

abbrev pub AreLoopsRefused : FlowGraph → List LoopNote → Refusal → Type 0
AreLoopsRefused v notes refusal = IsHeaderRefused v notes refusal ⊎ (IsPairRefused v notes refusal ⊎ (IsBackEdgeRefused v notes refusal ⊎
    (IsEntryRefused v notes refusal ⊎ IsDepthRefused v notes refusal)))

-- what finding the loops of notes answers
abbrev pub AreLoopsFound : FlowGraph → List LoopNote → Result LoopsView Refusal → Type 0
AreLoopsFound v notes (Ok t) = AreNaturalLoops v notes t
AreLoopsFound v notes (Err refusal) = AreLoopsRefused v notes refusal
