-- Scaffold: what is taken of the original's graph and loops.
use Rattle.std.specs.Prelude.{◌≡◌, ◌↔◌, ℕ, ◌<◌, true, length, slice_get, slice_index, Some}
use Rattle.code_text.specs.Text.{text_of}
use Rattle.code_text.specs.TextGraph.{text_graph, IsReachedCode}
use Rattle.cost_theory.specs.Graph.{Loops, is_back}
use Rattle.cost_theory.specs.Reached.{Code, edge_at}
use Rattle.scale_base.specs.Image.{Image}
use Rattle.foreign_scan.specs.declared.lists.GraphLists.{GraphLists}

-- The lists are those of the reached code of the original, and of loops with different headers.
pub record AreListsOf (original : Image) (code : Code) (l : Loops) (lists : GraphLists) : Type 0 where
  pub reached : IsReachedCode (text_of original) code
  pub nodes : code.nodes ≡ lists.nodes.now
  pub edges : code.edges ≡ lists.edges.now
  pub sources_size : length lists.sources.now ≡ length code.edges
  pub source : (e k : ℕ) → slice_get lists.sources.now e ≡ Some k → slice_get code.nodes k ≡ Some (edge_at (slice_get code.edges e))
  pub backs_size : length lists.backs.now ≡ length code.edges
  pub back : (e k : ℕ) → (slice_get lists.backs.now e ≡ Some (Some k)) ↔ ((e < length code.edges) × (k < l.loops) ×
      (is_back (text_graph (text_of original) code) l k e ≡ true))
  pub bounds_size : length lists.bounds.now ≡ l.loops
  pub bound : (k : ℕ) → k < l.loops → slice_index lists.bounds.now k ≡ l.bound k
  pub distinct : (j k : ℕ) → j < l.loops → k < l.loops → l.header j ≡ l.header k → j ≡ k
