-- Words that agree at the nodes of edges give one graph, and the edges of reached code start at its nodes.
use Rattle.std.proofs.Common.{◌≡◌, ℕ, Option, Some, None, slice_get, refl, sym, ap, ◌∙◌, subst}
use Rattle.std.proofs.Math.Path.{fun_ext}
use Rattle.cost_theory.specs.declared.flow.Flow.{Flow}
use Rattle.scale_base.specs.declared.edges.Edge.{Edge}
use Rattle.cost_theory.specs.Reached.{Code, callee_of, edge_callee, is_return_word, edge_returns, is_exit, edge_exits, graph_of, IsCodeOf}
use Rattle.cost_theory.proofs.Reaching.{edge_of_word}

module _ (word word' : ℕ → Flow) (code : Code) (same : (i : ℕ) (e : Edge) → slice_get code.edges i ≡ Some e → word e.at ≡ word' e.at) where
  callees : (i : ℕ) (o : Option Edge) → slice_get code.edges i ≡ o → edge_callee word code.functions o ≡ edge_callee word' code.functions o
  callees i None at = refl
  callees i (Some e) at = ap (callee_of code.functions) (same i e at)

  returns : (i : ℕ) (o : Option Edge) → slice_get code.edges i ≡ o → edge_returns word o ≡ edge_returns word' o
  returns i None at = refl
  returns i (Some e) at = ap is_return_word (same i e at)

  exits : (i : ℕ) (o : Option Edge) → slice_get code.edges i ≡ o → edge_exits word o ≡ edge_exits word' o
  exits i None at = refl
  exits i (Some e) at = ap (λ w. is_exit w e.kind) (same i e at)

  pub one_graph : graph_of word code ≡ graph_of word' code
  one_graph =
      let one : (λ i. edge_callee word code.functions (slice_get code.edges i)) ≡ (λ i. edge_callee word' code.functions (slice_get code.edges i)) = fun_ext (λ i. callees i (slice_get code.edges i) refl) in
      let two : (λ i. edge_returns word (slice_get code.edges i)) ≡ (λ i. edge_returns word' (slice_get code.edges i)) = fun_ext (λ i. returns i (slice_get code.edges i) refl) in
      let three : (λ i. edge_exits word (slice_get code.edges i)) ≡ (λ i. edge_exits word' (slice_get code.edges i)) = fun_ext (λ i. exits i (slice_get code.edges i) refl) in
      ap (λ f. record (graph_of word code) { callee = f }) one ∙
      (ap (λ f. record (graph_of word code) { callee = λ i. edge_callee word' code.functions (slice_get code.edges i); returns = f }) two ∙
      ap (λ f. record (graph_of word' code) { exits = f }) three)

-- an edge starts at a node
pub edge_node : (word : ℕ → Flow) (first : ℕ) (code : Code) → IsCodeOf word first code → (i : ℕ) (e : Edge) → slice_get code.edges i ≡ Some e →
    (k : ℕ) × (slice_get code.nodes k ≡ Some e.at)
edge_node word first code is i e at =
    let r = edge_of_word word first code is i e at in
    subst (λ v. (k : ℕ) × (slice_get code.nodes k ≡ Some v)) (sym r.3) ((is.nodes r.0).1 r.1)
