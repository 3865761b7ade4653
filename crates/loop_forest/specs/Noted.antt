-- The loops of a program's graph by their notes: natural loops within an extent (Aho, Lam, Sethi and Ullman, Compilers, section 9.6).
-- Loops are numbered from 0 on here, and from 1 on in refusals.
use Rattle.std.specs.Prelude.{◌≡◌, ◌≢◌, ℕ, ◌<◌, List, map, slice_index, ◌⊎◌, Some}
use Rattle.cost_theory.specs.Accepted.{IsNode, IsInBody}
use Rattle.cost_theory.specs.Graph.{Loops}
use Rattle.cost_theory.specs.Lists.{Tree, loops_of}
use Rattle.flow_graph.specs.FlowGraph.{FlowGraph, graph}
use Rattle.loop_file.specs.declared.notes.LoopNote.{LoopNote}
use Rattle.loop_file.specs.Kept.{in_extent, note_at}

-- ---- by the notes alone

abbrev pub header_address : List LoopNote → ℕ → ℕ
header_address notes k = (note_at notes k).header

-- a node is in the body of loop k
abbrev pub IsBodyNode : FlowGraph → List LoopNote → ℕ → ℕ → Type 0
IsBodyNode v notes k at = IsInBody (graph v) (header_address notes k) (in_extent (note_at notes k)) at

-- its header is a node
abbrev pub IsHeaderReached : FlowGraph → List LoopNote → ℕ → Type 0
IsHeaderReached v notes k = IsNode (graph v) (header_address notes k)

-- loops j and k, numbered in this order, have one header
abbrev pub HaveOneHeader : List LoopNote → ℕ → ℕ → Type 0
HaveOneHeader notes j k = (j < k) × (header_address notes j ≡ header_address notes k)

-- an edge leads from its body to its header
abbrev pub HasBackEdge : FlowGraph → List LoopNote → ℕ → Type 0
HasBackEdge v notes k = (e : ℕ) × (e < (graph v).edges) × IsBodyNode v notes k ((graph v).source e) ×
    ((graph v).target e ≡ Some (header_address notes k))

-- An edge from outside its body leads to a node of the body that isn't its header; or such a node is the entry of a function, which stands for
-- both ends then.
abbrev pub IsNotedSideEntry : FlowGraph → List LoopNote → ℕ → ℕ → ℕ → Type 0
IsNotedSideEntry v notes k from to = IsBodyNode v notes k to × (to ≢ header_address notes k) ×
    (((e : ℕ) × (e < (graph v).edges) × ((graph v).source e ≡ from) × ((graph v).target e ≡ Some to) × (IsBodyNode v notes k from → ⊥)) ⊎
    ((from ≡ to) × ((f : ℕ) × (f < (graph v).functions) × ((graph v).entry f ≡ to))))

-- ---- by lists

-- the address of a node by its number
abbrev pub node_address : FlowGraph → ℕ → ℕ
node_address v k = slice_index v.code.nodes k

-- loops by the numbers of nodes: each one's header, bound and body
abbrev pub tree_by : FlowGraph → List ℕ → List ℕ → List (List ℕ) → Tree
tree_by v headers bounds bodies = record {
  headers = map (node_address v) headers;
  bounds = bounds;
  bodies = map (λ body. map (node_address v) body) bodies;
}

abbrev pub loops_by : FlowGraph → List ℕ → List ℕ → List (List ℕ) → Loops
loops_by v headers bounds bodies = loops_of (tree_by v headers bounds bodies)
