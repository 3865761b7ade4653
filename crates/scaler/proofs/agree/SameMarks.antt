-- Over two graphs of a program, with the loops of the same notes, the marks of edges and the weights are the same, and the numbers under these agree.
use Rattle.std.proofs.Common.{◌≡◌, ℕ, ◌+◌, List, slice_get, sym, ap, ◌∙◌, subst}
use Rattle.std.proofs.Math.Path.{fun_ext}
use Rattle.scale_base.specs.Image.{Image}
use Rattle.power_model.specs.Numbers.{PowerModel}
use Rattle.power_model.specs.Price.{cycles_of}
use Rattle.cost_theory.specs.Graph.{Loops}
use Rattle.cost_theory.specs.Reached.{edge_at, edge_to}
use Rattle.cost_theory.specs.Worst.{Numbers, AreNumbers}
use Rattle.scale_base.specs.declared.edges.Edge.{Edge}
use Rattle.code_text.specs.Text.{text_of}
use Rattle.flow_graph.specs.FlowGraph.{FlowGraph, graph}
use Rattle.loop_file.specs.declared.notes.LoopNote.{LoopNote}
use Rattle.loop_forest.specs.Tree.{LoopView, loops}
use Rattle.worst_cycles.specs.Worst.{slack_at}
use Rattle.scale_base.specs.declared.fragments.Mark.{Mark}
use Rattle.scale_sites.specs.Counters.{counted_loops, set_from}
use Rattle.scale_sites.specs.Marks.{marks_at, marks_of}
use Rattle.scale_sites.specs.Sites.{is_branch, edge_branches}
use Rattle.rewritten_runs.specs.Stubs.{IsWeighed, plain_weights, marks_by_slack, extra_weights, stored_weights}
use Rattle.answer_laws.specs.Renumbered.{IsRenumbered}
use Rattle.answer_laws.specs.Alike.{AreAlikeTrees, AreAlikeNumbers}
use Rattle.answer_laws.proofs.Laws.{numbers_alike, weights_same, trees_agree}
use Rattle.scaler.proofs.agree.Pairs.{renumbered}

-- what goes by the list of edges alone
extra_moved : (power : PowerModel) (v v' : FlowGraph) (marked : ℕ → List Mark) → v.code.edges ≡ v'.code.edges → extra_weights power v marked ≡ extra_weights power v' marked
extra_moved power v v' marked e = ap {B = ℕ → ℕ} (λ (es : List Edge). extra_weights power (record v { code = record v.code { edges = es } }) marked) e

module _ (power : PowerModel) (image : Image) (notes : List LoopNote) (v v' : FlowGraph) (t t' : LoopView) (plain plain' stored stored' : Numbers)
    (one : IsWeighed power image notes v t plain stored) (other : IsWeighed power image notes v' t' plain' stored') where
  pub same : IsRenumbered v v'
  same = renumbered image v v' one.code_is other.code_is

  pub trees : AreAlikeTrees v v' t t'
  trees = trees_agree v v' notes t t' same one.code_is.flow one.tree_is other.tree_is

  pub counted_same : counted_loops t ≡ counted_loops t'
  counted_same = ap (set_from 0) trees.counted

  -- numbers under the same weights
  pub alike_under : (w w' : ℕ → ℕ) (n n' : Numbers) → w ≡ w' → AreNumbers (graph v) (loops v t) w n → AreNumbers (graph v') (loops v' t') w' n' → AreAlikeNumbers v v' t t' same w n n'
  alike_under w w' n n' e are are' = numbers_alike v v' notes t t' w n n' same one.code_is.flow one.tree_is other.tree_is are (subst (λ (x : ℕ → ℕ). AreNumbers (graph v') (loops v' t') x n') (sym e) are')

  pub slack_under : (w w' : ℕ → ℕ) (n n' : Numbers) → w ≡ w' → AreAlikeNumbers v v' t t' same w n n' → (i : ℕ) → slack_at (graph v) (loops v t) w n i ≡ slack_at (graph v') (loops v' t') w' n' i
  slack_under w w' n n' e alike i = alike.slack i ∙ ap (λ (x : ℕ → ℕ). slack_at (graph v') (loops v' t') x n' i) e

  plain_same : plain_weights power image v ≡ plain_weights power image v'
  plain_same = weights_same (text_of image) v v' (cycles_of power.costs) same

  plain_alike : AreAlikeNumbers v v' t t' same (plain_weights power image v) plain plain'
  plain_alike = alike_under (plain_weights power image v) (plain_weights power image v') plain plain' plain_same one.plain_are other.plain_are

  marks_at_same : (e : ℕ) → marks_by_slack power image v t plain e ≡ marks_by_slack power image v' t' plain' e
  marks_at_same e =
      let s = slack_at (graph v) (loops v t) (plain_weights power image v) plain e in
      let s' = slack_at (graph v') (loops v' t') (plain_weights power image v') plain' e in
      ap (λ (l : Loops). marks_of (graph v) l (counted_loops t) (is_branch v e) s power.min_gain e) trees.loops ∙
      ap (λ (c : List ℕ). marks_of (graph v) (loops v' t') c (is_branch v e) s power.min_gain e) counted_same ∙
      ap (λ (x : ℕ). marks_of (graph v) (loops v' t') (counted_loops t') (is_branch v e) x power.min_gain e) (slack_under (plain_weights power image v) (plain_weights power image v') plain plain' plain_same plain_alike e) ∙
      ap (λ (es : List Edge). marks_at (loops v' t') (counted_loops t') (edge_branches (slice_get es e)) s' power.min_gain (edge_at (slice_get es e)) (edge_to (slice_get es e))) same.edges

  pub marks_same : marks_by_slack power image v t plain ≡ marks_by_slack power image v' t' plain'
  marks_same = fun_ext marks_at_same

  pub extra_same : extra_weights power v (marks_by_slack power image v t plain) ≡ extra_weights power v' (marks_by_slack power image v' t' plain')
  extra_same =
      ap {B = ℕ → ℕ} (λ (m : ℕ → List Mark). extra_weights power v m) marks_same ∙
      extra_moved power v v' (marks_by_slack power image v' t' plain') same.edges

  pub stored_same : stored_weights power image v (marks_by_slack power image v t plain) ≡ stored_weights power image v' (marks_by_slack power image v' t' plain')
  stored_same = fun_ext (λ e.
      ap (λ (w : ℕ → ℕ). w e + extra_weights power v (marks_by_slack power image v t plain) e) plain_same ∙
      ap (λ (w : ℕ → ℕ). plain_weights power image v' e + w e) extra_same)

  pub stored_alike : AreAlikeNumbers v v' t t' same (stored_weights power image v (marks_by_slack power image v t plain)) stored stored'
  stored_alike = alike_under (stored_weights power image v (marks_by_slack power image v t plain)) (stored_weights power image v' (marks_by_slack power image v' t' plain')) stored stored' stored_same one.stored_are other.stored_are
