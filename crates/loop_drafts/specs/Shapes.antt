-- The law that loops are taken or refused by their headers and ranges alone.
use Rattle.std.specs.Prelude.{◌≡◌, ℕ, List, map, Err}
use Rattle.scale_base.specs.declared.ranges.Range.{Range}
use Rattle.scale_base.specs.declared.refusal.Refusal.{Refusal}
use Rattle.code_text.specs.Text.{Text}
use Rattle.flow_graph.specs.FlowGraph.{FlowGraph, IsGraphOf}
use Rattle.loop_file.specs.declared.notes.LoopNote.{LoopNote}
use Rattle.loop_forest.specs.Tree.{LoopView, IsTreeOf, IsTreeBuilt}

-- the header of a loop and where it lies
abbrev pub shape : LoopNote → ℕ × List Range
shape note = (note.header, note.ranges)

-- two lists of notes differ in bounds alone, in what is counted and in the least turns
abbrev pub HaveOneShape : List LoopNote → List LoopNote → Type 0
HaveOneShape notes notes' = map shape notes ≡ map shape notes'

-- The law: where the loops of notes are taken in a program's code, so are those of notes with any other bounds.
abbrev pub BoundsAreFree : Type 0
BoundsAreFree = (t : Text) (v v' : FlowGraph) (notes notes' : List LoopNote) (tree : LoopView) (refusal : Refusal) → IsGraphOf t v →
    IsGraphOf t v' →
    HaveOneShape notes notes' → IsTreeOf v notes tree → IsTreeBuilt v' notes' (Err refusal) → ⊥
