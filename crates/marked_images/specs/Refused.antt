-- Why the program of an image and its loops is refused before its marks are looked at. Any of several cycles may be named, so each is a relation.
use Rattle.std.specs.Prelude.{◌≡◌, ℕ, List, Result, Err}
use Rattle.scale_base.specs.declared.refusal.Refusal.{Refusal}
use Rattle.scale_base.specs.declared.summary.Summary.{Summary}
use Rattle.scale_base.specs.Image.{Image}
use Rattle.loop_file.specs.declared.notes.LoopNote.{LoopNote}
use Rattle.code_text.specs.Text.{text_of}
use Rattle.flow_graph.specs.FlowGraph.{FlowGraph, IsGraphOf}
use Rattle.flow_graph.specs.Refused.{IsRefusedBy}
use Rattle.loop_forest.specs.Tree.{LoopView, IsTreeOf, IsTreeRefusal}
use Rattle.scale_sites.specs.Counters.{AreCounters}

-- the reached code is refused
pub record IsCodeRefused (image : Image) (answer : Result (List ℕ × Summary) Refusal) : Type 0 where
  pub refusal : Refusal
  pub why : IsRefusedBy (text_of image) refusal
  pub answer_is : answer ≡ Err refusal

-- the loops of its graph are refused
pub record IsLoopRefused (image : Image) (notes : List LoopNote) (answer : Result (List ℕ × Summary) Refusal) : Type 0 where
  pub code : FlowGraph
  pub refusal : Refusal
  pub code_is : IsGraphOf (text_of image) code
  pub why : IsTreeRefusal code notes refusal
  pub answer_is : answer ≡ Err refusal

-- a counted loop can't be counted, or there are too many
pub record IsCounterRefused (image : Image) (notes : List LoopNote) (answer : Result (List ℕ × Summary) Refusal) : Type 0 where
  pub code : FlowGraph
  pub tree : LoopView
  pub refusal : Refusal
  pub code_is : IsGraphOf (text_of image) code
  pub tree_is : IsTreeOf code notes tree
  pub why : AreCounters code tree (Err refusal)
  pub answer_is : answer ≡ Err refusal
