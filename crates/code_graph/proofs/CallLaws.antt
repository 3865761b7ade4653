-- The calls of nodes as arcs among functions.
use Rattle.std.proofs.Common.{◌≡◌, ℕ, ◌+◌, ◌<◌, ◌≤◌, List, [], ◌∷◌, ◌++◌, length, get_or, Option, Some, None, refl, sym, ap, ◌∙◌, subst, arith, ⊎_elim}
use Rattle.std.specs.Prelude.{slice_get}
use Rattle.std.proofs.lemmas.Option.{slice_get_within, slice_get-get_or, get_or_from_slice_get}
use Rattle.std.proofs.lemmas.Bool.{cases_lt}
use Rattle.cost_theory.proofs.Laws.{below_suc}
use Rattle.graph_algorithms.specs.declared.orders.Arc.{Arc}
use Rattle.graph_algorithms.specs.Arcs.{HasArc, arc_at, AreNumbered, IsCycle}
use Rattle.code_graph.specs.Assembling.{HasCall, AreCallArcs, AreCallsWithin}
use Rattle.code_graph.proofs.Lists.{get_left, get_end, get_pushed}
use Rattle.flow_graph.proofs.Laws.{some_is}

-- the arc at a place
arc_of : (arcs : List Arc) (s : ℕ) (a : Arc) → slice_get arcs s ≡ Some a → arc_at arcs s ≡ a
arc_of arcs s a at = get_or_from_slice_get arcs s a (record { from = 0; to = 0 }) at

at_arc : (arcs : List Arc) (s : ℕ) → s < length arcs → slice_get arcs s ≡ Some (arc_at arcs s)
at_arc arcs s lt = slice_get-get_or arcs s (record { from = 0; to = 0 }) lt

pub arcs_none : (k : ℕ) (owners : List ℕ) (callees : List (Option ℕ)) (arcs : List Arc) → AreCallArcs k owners callees arcs → slice_get callees k ≡ Some None → AreCallArcs (k + 1) owners callees arcs
arcs_none k owners callees arcs are none = record {
  called = λ f h has. let c = are.called f h has in (c.0, (let lt = c.1 in omega arith), c.2, c.3);
  arc = λ f h call. ⊎_elim
      (λ (lt : call.0 < k). are.arc f h (call.0, lt, call.2, call.3))
      (λ (e : call.0 ≡ k). let clash : Some None ≡ Some (Some h) = sym none ∙ ap (slice_get callees) (sym e) ∙ call.3 in let bad : ⊥ = cc in absurd bad)
      (below_suc call.0 k (let lt = call.1 in omega arith));
}

pub arcs_one : (k from to : ℕ) (owners : List ℕ) (callees : List (Option ℕ)) (arcs new : List Arc) → AreCallArcs k owners callees arcs → slice_get owners k ≡ Some from → slice_get callees k ≡ Some (Some to) →
    new ≡ arcs ++ record { from = from; to = to } ∷ [] → AreCallArcs (k + 1) owners callees new
arcs_one k from to owners callees arcs new are owner callee more = subst (AreCallArcs (k + 1) owners callees) (sym more) (record { called = back; arc = on })
  where
    old : (f h : ℕ) → HasCall k owners callees f h → HasCall (k + 1) owners callees f h
    old f h c = (c.0, (let lt = c.1 in omega arith), c.2, c.3)

    back : (f h : ℕ) → HasArc (arcs ++ record { from = from; to = to } ∷ []) f h → HasCall (k + 1) owners callees f h
    back f h has = ⊎_elim
        (λ (before : slice_get arcs has.0 ≡ Some (arc_at (arcs ++ record { from = from; to = to } ∷ []) has.0)).
        let e = arc_of arcs has.0 (arc_at (arcs ++ record { from = from; to = to } ∷ []) has.0) before in
        old f h (are.called f h (has.0, slice_get_within arcs has.0 (arc_at (arcs ++ record { from = from; to = to } ∷ []) has.0) before, ap (λ a. a.from) e ∙ has.2, ap (λ a. a.to) e ∙ has.3)))
        (λ (last : (has.0 ≡ length arcs) × (record { from = from; to = to } ≡ arc_at (arcs ++ record { from = from; to = to } ∷ []) has.0)).
        let f_is : from ≡ f = ap (λ (a : Arc). a.from) last.1 ∙ has.2 in
        let h_is : to ≡ h = ap (λ (a : Arc). a.to) last.1 ∙ has.3 in
        (k, omega arith, owner ∙ ap Some f_is, callee ∙ ap (λ x. Some (Some x)) h_is))
        (get_pushed arcs (record { from = from; to = to }) has.0 (arc_at (arcs ++ record { from = from; to = to } ∷ []) has.0) (at_arc (arcs ++ record { from = from; to = to } ∷ []) has.0 has.1))

    on : (f h : ℕ) → HasCall (k + 1) owners callees f h → HasArc (arcs ++ record { from = from; to = to } ∷ []) f h
    on f h call = ⊎_elim
        (λ (lt : call.0 < k).
        let a = are.arc f h (call.0, lt, call.2, call.3) in
        let at = get_left arcs (record { from = from; to = to } ∷ []) a.0 (arc_at arcs a.0) (at_arc arcs a.0 a.1) in
        let e = arc_of (arcs ++ record { from = from; to = to } ∷ []) a.0 (arc_at arcs a.0) at in
        (a.0, slice_get_within (arcs ++ record { from = from; to = to } ∷ []) a.0 (arc_at arcs a.0) at, ap (λ x. x.from) e ∙ a.2, ap (λ x. x.to) e ∙ a.3))
        (λ (e : call.0 ≡ k).
        let at = get_end arcs (record { from = from; to = to }) in
        let here = arc_of (arcs ++ record { from = from; to = to } ∷ []) (length arcs) (record { from = from; to = to }) at in
        let f_is : from ≡ f = some_is from f (sym owner ∙ ap (slice_get owners) (sym e) ∙ call.2) in
        let h_is : Some to ≡ Some h = some_is (Some to) (Some h) (sym callee ∙ ap (slice_get callees) (sym e) ∙ call.3) in
        (length arcs, slice_get_within (arcs ++ record { from = from; to = to } ∷ []) (length arcs) (record { from = from; to = to }) at, ap (λ x. x.from) here ∙ f_is, ap (λ x. x.to) here ∙ some_is to h h_is))
        (below_suc call.0 k (let lt = call.1 in omega arith))

-- arcs of calls among the functions are numbered
pub arcs_numbered : (count : ℕ) (owners : List ℕ) (callees : List (Option ℕ)) (arcs : List Arc) → AreCallArcs (length owners) owners callees arcs → AreCallsWithin count owners callees → AreNumbered count arcs
arcs_numbered count owners callees arcs are within s lt = within (arc_at arcs s).from (arc_at arcs s).to (are.called (arc_at arcs s).from (arc_at arcs s).to (s, lt, refl, refl))

-- the numbers of a cycle are those of functions
pub cycle_numbered : (count : ℕ) (arcs : List Arc) (cycle : List ℕ) → AreNumbered count arcs → IsCycle arcs cycle → (i : ℕ) → i < length cycle → get_or cycle i 0 < count
cycle_numbered count arcs cycle numbered is i lt = ⊎_elim
    (λ (more : i + 1 < length cycle). let a = is.onward i more in subst (λ x. x < count) a.2 (numbered a.0 a.1).0)
    (λ (last : length cycle ≤ i + 1). let a = is.round i (omega arith) in subst (λ x. x < count) a.2 (numbered a.0 a.1).0)
    (cases_lt (i + 1) (length cycle))
