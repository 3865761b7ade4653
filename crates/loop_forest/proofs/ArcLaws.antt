-- Arcs for the plain edges between nodes.
use Rattle.std.proofs.Common.{◌≡◌, ℕ, ◌+◌, ◌-◌, ◌<◌, ◌≤◌, List, [], ◌∷◌, ◌++◌, length, length-append, Option, None, is_some, refl, sym, ap, ◌∙◌, subst, arith, ⊎_elim, true, false}
use Rattle.std.proofs.lemmas.Bool.{cases_lt}
use Rattle.std.proofs.lemmas.List.{get_or_append_left, get_or-append_right}
use Rattle.graph_algorithms.specs.declared.orders.Arc.{Arc}
use Rattle.graph_algorithms.specs.Arcs.{arc_at}
use Rattle.flow_graph.specs.FlowGraph.{FlowGraph, graph}
use Rattle.loop_forest.specs.Arcs.{IsPlainBy, IsEdgeBetween, ArePlainArcs}

-- edge n has no arc
pub arc_skipped : (v : FlowGraph) (backs : List (Option ℕ)) (n : ℕ) (arcs : List Arc) → ArePlainArcs v backs n arcs → (IsPlainBy backs n → (graph v).target n ≡ None) → ArePlainArcs v backs (n + 1) arcs
arc_skipped v backs n arcs are none = record {
  few = let few = are.few in omega arith;
  edge = λ s lt. let h = are.edge s lt in (h.0, (let below = h.1 in omega arith), h.2, h.3);
  whole = λ e lt plain some. ⊎_elim (λ (low : e < n). are.whole e low plain some)
      (λ (high : n ≤ e). let same : e ≡ n = omega arith in
      let bad : true ≡ false = sym some ∙ ap is_some (ap (graph v).target same ∙ none (subst (IsPlainBy backs) same plain)) in let no_way : ⊥ = cc in absurd no_way)
      (cases_lt e n);
}

-- edge n leads from the node of one number to that of another
pub arc_added : (v : FlowGraph) (backs : List (Option ℕ)) (n : ℕ) (arcs : List Arc) (arc : Arc) → ArePlainArcs v backs n arcs → IsPlainBy backs n → IsEdgeBetween v n arc.from arc.to → ArePlainArcs v backs (n + 1) (arcs ++ arc ∷ [])
arc_added v backs n arcs arc are plain_n is =
    let size : length (arcs ++ arc ∷ []) ≡ length arcs + 1 = length-append arcs (arc ∷ []) in
    let left : (s : ℕ) → s < length arcs → arc_at arcs s ≡ arc_at (arcs ++ arc ∷ []) s = λ s lt. sym (get_or_append_left arcs (arc ∷ []) _ s lt) in
    let last : (s : ℕ) → s ≡ length arcs → arc ≡ arc_at (arcs ++ arc ∷ []) s = λ s e. sym (get_or-append_right arcs (arc ∷ []) s s _ (sym e) (omega arith) ∙ ap (arc_at (arc ∷ [])) (let z : s - s ≡ 0 = omega arith in z)) in
    let P : ℕ → Arc → Type 0 = λ e a. IsEdgeBetween v e a.from a.to in
    record {
      few = let few = are.few in omega arith;
      edge = λ s lt. ⊎_elim
          (λ (low : s < length arcs). let h = are.edge s low in (h.0, (let below = h.1 in omega arith), h.2, subst (P h.0) (left s low) h.3))
          (λ (high : length arcs ≤ s). (n, (let l : n < n + 1 = omega arith in l), plain_n, subst (P n) (last s (omega arith)) is))
          (cases_lt s (length arcs));
      whole = λ e lt plain some. ⊎_elim
          (λ (low : e < n). let h = are.whole e low plain some in (h.0, (let below = h.1 in omega arith), subst (P e) (left h.0 h.1) h.2))
          (λ (high : n ≤ e). let same : n ≡ e = omega arith in (length arcs, omega arith, subst (λ d. P d (arc_at (arcs ++ arc ∷ []) (length arcs))) same (subst (P n) (last (length arcs) refl) is)))
          (cases_lt e n);
    }
