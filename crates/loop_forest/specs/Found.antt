-- The natural loops of a graph, as lists: what NaturalLoops are seen as, and what finding them gives.
use Rattle.std.specs.Prelude.{◌≡◌, ℕ, ◌<◌, List, map, length, slice_get, slice_index, Some}
use Rattle.cost_theory.specs.Graph.{Loops}
use Rattle.cost_theory.specs.Accepted.{AreEntered, IsTooDeep}
use Rattle.cost_theory.specs.Lists.{body_of}
use Rattle.flow_graph.specs.FlowGraph.{FlowGraph, graph}
use Rattle.loop_file.specs.declared.notes.LoopNote.{LoopNote}
use Rattle.loop_file.specs.Kept.{noted_loops}
use Rattle.loop_forest.specs.Noted.{header_address, loops_by}

-- by number of the loop: the number of its header's node, and those of the nodes in its body
pub record LoopsView : Type 0 where
  pub headers : List ℕ
  pub bodies : List (List ℕ)

-- the loops, with the bounds of their notes
abbrev pub loops_seen : FlowGraph → List LoopNote → LoopsView → Loops
loops_seen v notes t = loops_by v t.headers (map (λ note. note.bound) notes) t.bodies

-- ascending numbers of nodes
pub record IsAscending (count : ℕ) (body : List ℕ) : Type 0 where
  pub within : (i x : ℕ) → slice_get body i ≡ Some x → x < count
  pub ascending : (i j x y : ℕ) → i < j → slice_get body i ≡ Some x → slice_get body j ≡ Some y → x < y

-- The loops of notes: each is entered at its header alone, and none is too deep.
pub record AreNaturalLoops (v : FlowGraph) (notes : List LoopNote) (t : LoopsView) : Type 0 where
  pub headers_size : length t.headers ≡ length notes
  pub bodies_size : length t.bodies ≡ length notes
  pub header : (k : ℕ) → k < length notes → slice_get v.code.nodes (slice_index t.headers k) ≡ Some (header_address notes k)
  pub body : (k : ℕ) → k < length notes → IsAscending (length v.code.nodes) (body_of t.bodies k)
  pub entered : AreEntered (graph v) (loops_seen v notes t) (noted_loops notes).inside
  pub not_deep : (k : ℕ) → k < length notes → IsTooDeep (loops_seen v notes t) k → ⊥
