-- Which loops a loop file may count: those that a rewritten image takes.
use Rattle.std.specs.Prelude.{◌≡◌, ℕ, ◌<◌, ◌≤◌, ◌⊎◌, List, map, length}
use Rattle.scale_base.specs.declared.refusal.Refusal.{Refusal}
use Rattle.code_text.specs.Text.{Text}
use Rattle.flow_graph.specs.FlowGraph.{FlowGraph, IsGraphOf}
use Rattle.loop_file.specs.declared.notes.LoopNote.{LoopNote}
use Rattle.loop_forest.specs.Tree.{LoopView, IsTreeOf}
use Rattle.scale_sites.specs.Counters.{counted_loops, HasNone, AreRefused}
use Rattle.loop_drafts.specs.Shapes.{HaveOneShape}

-- each back edge of a counted loop is a branch that is taken or a jump, and there is a shadow counter for each
pub record IsCountable (v : FlowGraph) (tree : LoopView) : Type 0 where
  pub patched : HasNone v tree
  pub few : length (counted_loops tree) ≤ 509

-- the loops of notes are taken, and those that are noted as counted can be
abbrev pub AreCounted : FlowGraph → List LoopNote → Type 0
AreCounted v notes = (tree : LoopView) × IsTreeOf v notes tree × IsCountable v tree

-- so they are where each part of the code that turns is a loop
abbrev pub AreCountable : FlowGraph → List LoopNote → ℕ → Type 0
AreCountable v notes aside = AreCounted v notes ⊎ (0 < aside)

-- two lists of notes count the same loops
abbrev pub HaveOneCount : List LoopNote → List LoopNote → Type 0
HaveOneCount notes notes' = map (λ note. note.counted) notes ≡ map (λ note. note.counted) notes'

-- The law: where the loops that notes count can be counted in a program's code, so can those of notes with any other bounds.
abbrev pub CountsAreFree : Type 0
CountsAreFree = (t : Text) (v v' : FlowGraph) (notes notes' : List LoopNote) (tree : LoopView) (refusal : Refusal) → IsGraphOf t v →
    IsGraphOf t v' →
    HaveOneShape notes notes' → HaveOneCount notes notes' → AreCounted v notes → IsTreeOf v' notes' tree → AreRefused v' tree refusal → ⊥
