-- The lists of a graph and of its loops.
use Rattle.std.proofs.Common.{◌≡◌, ℕ, ◌<◌, Bool, List, length, Option, sym, ap, ◌∙◌, subst, inl, inr, ⊎_elim}
use Rattle.std.specs.Prelude.{slice_get, slice_index}
use Rattle.std.proofs.lemmas.Bool.{cases_order}
use Rattle.std.proofs.lemmas.List.{length-map}
use Rattle.flow_graph.specs.Ends.{AreEdgeEnds}
use Rattle.flow_graph.specs.FlowGraph.{FlowGraph, graph, IsGraphOf}
use Rattle.code_text.specs.Text.{text_of}
use Rattle.code_text.specs.TextGraph.{text_graph}
use Rattle.cost_theory.specs.Graph.{is_back}
use Rattle.loop_forest.specs.Noted.{node_address}
use Rattle.loop_forest.specs.Tree.{LoopView, loops, IsLoopTree}
use Rattle.scale_base.specs.Image.{Image}
use Rattle.foreign_scan.specs.declared.lists.GraphLists.{GraphLists}
use Rattle.foreign_scan.specs.Lists.{AreListsOf}

pub lists_of : (original : Image) (v : FlowGraph) (extent : ℕ → ℕ → Bool) (t : LoopView) (targets : List (Option ℕ)) (lists : GraphLists) → IsGraphOf (text_of original) v → IsLoopTree v extent t → lists.nodes.now ≡ v.code.nodes → lists.edges.now ≡ v.code.edges
    → AreEdgeEnds v lists.sources.now targets → lists.backs.now ≡ t.backs → lists.bounds.now ≡ t.bounds → AreListsOf original v.code (loops v t) lists
lists_of original v extent t targets lists is tree nodes edges ends backs bounds =
    let many : (loops v t).loops ≡ length t.headers = length-map t.headers (node_address v) in
    let back_is : (k e : ℕ) → is_back (text_graph (text_of original) v.code) (loops v t) k e ≡ is_back (graph v) (loops v t) k e = λ k e. ap (λ g. is_back g (loops v t) k e) is.graph_is in
    record {
      reached = is.reached;
      nodes = sym nodes;
      edges = sym edges;
      sources_size = ends.sources_size;
      source = ends.source;
      backs_size = ap length backs ∙ tree.backs_size;
      back = λ e k. (
        λ there. let b = (tree.backs e k).0 (ap (λ xs. slice_get xs e) (sym backs) ∙ there) in (b.0, subst (λ n. k < n) (sym many) b.1, back_is k e ∙ b.2),
        λ h. ap (λ xs. slice_get xs e) backs ∙ (tree.backs e k).1 (h.0, subst (λ n. k < n) many h.1, sym (back_is k e) ∙ h.2),
      );
      bounds_size = ap length bounds ∙ (tree.bounds_size ∙ sym many);
      bound = λ k low. ap (λ xs. slice_index xs k) bounds;
      distinct = λ j k jl kl e. elim (cases_order j k) [
        | inl same ↦ same
        | inr either ↦ absurd (⊎_elim (λ low. tree.accepted.distinct j k kl (low, e)) (λ high. tree.accepted.distinct k j jl (high, sym e)) either)
      ];
    }
