-- Arcs from the nodes of edges to what is needed for these.
use Rattle.std.proofs.Common.{◌≡◌, ℕ, ◌+◌, ◌-◌, ◌<◌, ◌≤◌, inl, inr, Option, List, [], ◌∷◌, ◌++◌, length, length-append, slice_get, Some, None, is_some, refl, sym, ap, ◌∙◌, subst, arith, ⊎_elim, true}
use Rattle.std.proofs.lemmas.Bool.{cases_lt}
use Rattle.std.proofs.lemmas.List.{get_or_append_left, get_or-append_right}
use Rattle.std.proofs.lemmas.Option.{slice_get_within, slice_get-get_or, same_Some, none-some}
use Rattle.graph_algorithms.specs.declared.orders.Arc.{Arc}
use Rattle.graph_algorithms.specs.Arcs.{arc_at, number_in_place, AreDistinct, AreNumbered, IsSorted}
use Rattle.flow_graph.specs.FlowGraph.{FlowGraph, graph, IsFlowGraph}
use Rattle.loop_forest.specs.Arcs.{ArePlainArcs}
use Rattle.loop_forest.proofs.Laws.{one_number}
use Rattle.worst_cycles.specs.Needs.{AreEntries, LeadsToNode, LeadsPlainly, CallsNode, IsNeeded, StartsAtNode, AreNeeds, IsNeededFirst}

-- a number has one place
pub one_place : (order : List ℕ) → AreDistinct order → (i j : ℕ) → i < length order → j < length order → number_in_place order i ≡ number_in_place order j → i ≡ j
one_place order distinct i j il jl same = ⊎_elim
    (λ (lt : i < j). absurd (distinct i j lt jl same))
    (λ (le : j ≤ i). ⊎_elim
    (λ (lt : j < i). absurd (distinct j i lt il (sym same)))
    (λ (ge : i ≤ j). let e : i ≡ j = omega arith in e)
    (cases_lt j i))
    (cases_lt i j)

-- a node to which an edge leads makes its target one
is_led : (v : FlowGraph) (e t : ℕ) → LeadsToNode v e t → is_some ((graph v).target e) ≡ true
is_led v e t led = ap is_some (led.0 ∙ slice_get-get_or v.code.nodes t 0 led.1)

pub edges_needed : (v : FlowGraph) (backs : List (Option ℕ)) (entries : List ℕ) (arcs : List Arc) → IsFlowGraph v → ArePlainArcs v backs (length v.code.edges) arcs → AreNeeds v backs entries 0 arcs
edges_needed v backs entries arcs flow are = record {
  few = let few = are.few in omega arith;
  each = λ s lt. let h = are.edge s lt in (h.0, h.1, h.3.source, inl (h.2, (h.3.target, h.3.within)));
  led = λ e t lt led.
      let s = are.whole e lt led.0 (is_led v e t led.1) in
      let here : slice_get v.code.nodes t ≡ Some _ = slice_get-get_or v.code.nodes t 0 led.1.1 in
      (s.0, s.1, s.2.source, one_number v flow (arc_at arcs s.0).to t _ (sym s.2.target ∙ led.1.0 ∙ here) here);
  called = λ e t lt called. let bad : ⊥ = omega arith in absurd bad;
}

-- edge n calls no function
pub need_skipped : (v : FlowGraph) (backs : List (Option ℕ)) (entries : List ℕ) (n : ℕ) (arcs : List Arc) → AreNeeds v backs entries n arcs → (graph v).callee n ≡ None → AreNeeds v backs entries (n + 1) arcs
need_skipped v backs entries n arcs are none = record {
  few = let few = are.few in omega arith;
  each = are.each;
  led = are.led;
  called = λ e t lt called. ⊎_elim (λ (low : e < n). are.called e t low called)
      (λ (high : n ≤ e). let same : n ≡ e = omega arith in absurd (none-some called.0 (sym none ∙ ap (graph v).callee same ∙ called.1)))
      (cases_lt e n);
}

-- edge n calls function f
pub need_added : {v : FlowGraph} {backs : List (Option ℕ)} {entries : List ℕ} {n : ℕ} {arcs : List Arc} (arc : Arc) (f : ℕ) → AreNeeds v backs entries n arcs → n < length v.code.edges → StartsAtNode v n arc.from → (graph v).callee n ≡ Some f → arc.to ≡ number_in_place entries f →
    AreNeeds v backs entries (n + 1) (arcs ++ arc ∷ [])
need_added {v = v} {backs = backs} {entries = entries} {n = n} {arcs = arcs} arc f are below starts calls to =
    let size : length (arcs ++ arc ∷ []) ≡ length arcs + 1 = length-append arcs (arc ∷ []) in
    let left : (s : ℕ) → s < length arcs → arc_at arcs s ≡ arc_at (arcs ++ arc ∷ []) s = λ s lt. sym (get_or_append_left arcs (arc ∷ []) _ s lt) in
    let last : (s : ℕ) → s ≡ length arcs → arc ≡ arc_at (arcs ++ arc ∷ []) s = λ s e. sym (get_or-append_right arcs (arc ∷ []) s s _ (sym e) (omega arith) ∙ ap (arc_at (arc ∷ [])) (let z : s - s ≡ 0 = omega arith in z)) in
    let P : ℕ → Arc → Type 0 = λ e a. StartsAtNode v e a.from × IsNeeded v backs entries e a.to in
    let Q : ℕ → ℕ → Arc → Type 0 = λ e t a. StartsAtNode v e a.from × (a.to ≡ t) in
    record {
      few = let few = are.few in omega arith;
      each = λ s lt. ⊎_elim
          (λ (low : s < length arcs). let h = are.each s low in let p : P h.0 (arc_at (arcs ++ arc ∷ []) s) = subst (P h.0) (left s low) (h.2, h.3) in (h.0, h.1, p.0, p.1))
          (λ (high : length arcs ≤ s). let same : s ≡ length arcs = omega arith in let p : P n (arc_at (arcs ++ arc ∷ []) s) = subst (P n) (last s same) (starts, inr (f, calls, to)) in (n, below, p.0, p.1))
          (cases_lt s (length arcs));
      led = λ e t lt led. let h = are.led e t lt led in let within = h.1 in let q : Q e t (arc_at (arcs ++ arc ∷ []) h.0) = subst (Q e t) (left h.0 h.1) (h.2, h.3) in (h.0, (let l : h.0 < length (arcs ++ arc ∷ []) = omega arith in l), q.0, q.1);
      called = λ e t lt called. ⊎_elim
          (λ (low : e < n). let h = are.called e t low called in let within = h.1 in let q : Q e t (arc_at (arcs ++ arc ∷ []) h.0) = subst (Q e t) (left h.0 h.1) (h.2, h.3) in (h.0, (let l : h.0 < length (arcs ++ arc ∷ []) = omega arith in l), q.0, q.1))
          (λ (high : n ≤ e).
          let same : n ≡ e = omega arith in
          let one : f ≡ called.0 = same_Some f called.0 (sym calls ∙ ap (graph v).callee same ∙ called.1) in
          let q : Q e t (arc_at (arcs ++ arc ∷ []) (length arcs)) = subst (Q e t) (last (length arcs) refl) (subst (λ d. StartsAtNode v d arc.from) same starts, to ∙ ap (number_in_place entries) one ∙ sym called.2) in
          (length arcs, (let l : length arcs < length (arcs ++ arc ∷ []) = omega arith in l), q.0, q.1))
          (cases_lt e n);
    }

needed_within : (v : FlowGraph) (backs : List (Option ℕ)) (entries : List ℕ) (e t : ℕ) → IsFlowGraph v → AreEntries v entries → e < length v.code.edges → IsNeeded v backs entries e t → t < length v.code.nodes
needed_within v backs entries e t flow are lt need = ⊎_elim
    (λ (led : LeadsPlainly v backs e t). led.1.1)
    (λ (called : CallsNode v entries e t).
    let f = flow.program.callee_function e called.0 lt called.1 in
    let within : number_in_place entries called.0 < length v.code.nodes = slice_get_within v.code.nodes (number_in_place entries called.0) _ (are.each called.0 f) in
    let same = called.2 in let r : t < length v.code.nodes = omega arith in r)
    need

pub needs_numbered : (v : FlowGraph) (backs : List (Option ℕ)) (entries : List ℕ) (n : ℕ) (arcs : List Arc) → IsFlowGraph v → AreEntries v entries → AreNeeds v backs entries n arcs → AreNumbered (length v.code.nodes) arcs
needs_numbered v backs entries n arcs flow entry are s lt =
    let h = are.each s lt in
    (slice_get_within v.code.nodes (arc_at arcs s).from _ h.2, needed_within v backs entries h.0 (arc_at arcs s).to flow entry h.1 h.3)

pub sorted_needed : (v : FlowGraph) (backs : List (Option ℕ)) (entries : List ℕ) (arcs : List Arc) (order : List ℕ) → IsFlowGraph v → AreNeeds v backs entries (length v.code.edges) arcs → IsSorted (length v.code.nodes) arcs order → IsNeededFirst v backs entries order
sorted_needed v backs entries arcs order flow are sorted = record {
  within = sorted.within;
  whole = sorted.whole;
  distinct = sorted.distinct;
  ready = λ i e t il lt starts need.
      let s : (s : ℕ) × (s < length arcs) × StartsAtNode v e (arc_at arcs s).from × ((arc_at arcs s).to ≡ t) = ⊎_elim (λ (led : LeadsPlainly v backs e t). are.led e t lt led) (λ (called : CallsNode v entries e t). are.called e t lt called) need in
      let o = sorted.before s.0 s.1 in
      let from_is : (arc_at arcs s.0).from ≡ number_in_place order i = one_number v flow (arc_at arcs s.0).from (number_in_place order i) ((graph v).source e) s.2 starts in
      let same : o.1 ≡ i = one_place order sorted.distinct o.1 i o.3 il (o.5 ∙ from_is) in
      let rises = o.2 in
      (o.0, (let l : o.0 < i = omega arith in l), o.4 ∙ s.3);
}
