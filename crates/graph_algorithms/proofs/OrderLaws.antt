-- An order leaves no cycle, and a cycle no order.
use Rattle.std.proofs.Common.{◌≡◌, ◌≢◌, ℕ, zero, suc, ◌+◌, ◌-◌, ◌<◌, ◌≤◌, List, drop, length, length-drop, refl, sym, ap, ◌∙◌, arith, Option, Some, ⊎_elim}
use Rattle.std.proofs.lemmas.Bool.{cases_eq, cases_lt}
use Rattle.std.proofs.lemmas.List.{get_or-drop}
use Rattle.graph_algorithms.specs.declared.orders.Arc.{Arc}
use Rattle.graph_algorithms.specs.declared.orders.search.Mark.{Mark}
use Rattle.graph_algorithms.specs.declared.orders.search.Mark.TheVariants.{Unmet, OnPath, Done}
use Rattle.graph_algorithms.specs.Arcs.{arc_at, number_in_place, AreNumbered, AreDistinct, StandsBefore, IsSorted, IsCycle, Leads, HasNoCycle}
use Rattle.graph_algorithms.specs.Arcs.Leads.{along, onward}
use Rattle.graph_algorithms.specs.DepthFirst.{mark, IsMet, IsDone, IsSearch, IsBack}

pub same_place : (numbers : List ℕ) (i j : ℕ) → AreDistinct numbers → i < length numbers → j < length numbers → number_in_place numbers i ≡ number_in_place numbers j → i ≡ j
same_place numbers i j distinct il jl e = ⊎_elim (λ (k : i ≡ j). k)
    (λ (ne : i ≡ j → ⊥). ⊎_elim
    (λ (lt : i < j). absurd (distinct i j lt jl e))
    (λ (le : j ≤ i). let d : i ≢ j = ne in let lt : j < i = omega arith in absurd (distinct j i lt il (sym e)))
    (cases_lt i j))
    (cases_eq i j)

before_leads : (arcs : List Arc) (order : List ℕ) → AreDistinct order → ((s : ℕ) → s < length arcs → StandsBefore order (arc_at arcs s).to (arc_at arcs s).from) → (a b : ℕ) → Leads arcs a b → StandsBefore order b a
before_leads arcs order distinct before a b (along h) =
    let o = before h.0 h.1 in (o.0, o.1, o.2, o.3, o.4 ∙ h.3, o.5 ∙ h.2)
before_leads arcs order distinct before a c (onward b h leads) =
    let o = before h.0 h.1 in
    let w = before_leads arcs order distinct before b c leads in
    let ol : o.0 < length order = (let x = o.2 in let y = o.3 in omega arith) in
    let e : o.0 ≡ w.1 = same_place order o.0 w.1 distinct ol w.3 (o.4 ∙ h.3 ∙ sym w.5) in
    (w.0, o.1, (let x = o.2 in let y = w.2 in omega arith), o.3, w.4, o.5 ∙ h.2)

pub sorted_no_cycle : (count : ℕ) (arcs : List Arc) (order : List ℕ) → IsSorted count arcs order → HasNoCycle arcs
sorted_no_cycle count arcs order sorted a leads =
    let o = before_leads arcs order sorted.distinct sorted.before a a leads in
    sorted.distinct o.0 o.1 o.2 o.3 (o.4 ∙ sym o.5)

leads_round : (arcs : List Arc) (cycle : List ℕ) → IsCycle arcs cycle → (k i : ℕ) → i + 1 + k ≡ length cycle → Leads arcs (number_in_place cycle i) (number_in_place cycle 0)
leads_round arcs cycle is zero i e = along (is.round i (omega arith))
leads_round arcs cycle is (suc k) i e = onward (number_in_place cycle (i + 1)) (is.onward i (omega arith)) (leads_round arcs cycle is k (i + 1) (omega arith))

pub cycle_not_none : (arcs : List Arc) (cycle : List ℕ) → IsCycle arcs cycle → HasNoCycle arcs → ⊥
cycle_not_none arcs cycle is none = let some = is.some in none (number_in_place cycle 0) (leads_round arcs cycle is (length cycle - 1) 0 (omega arith))

done_number : (arcs : List Arc) (before next : List (Option ℕ)) (marks : List Mark) (path order : List ℕ) (x : ℕ) (m : Mark) → IsSearch arcs before next marks path order → length path ≡ 0 → IsMet marks x → mark marks x ≡ m → IsDone marks x
done_number arcs before next marks path order x Unmet is empty met e = absurd (met e)
done_number arcs before next marks path order x (OnPath i) is empty met e = let lt = (is.marked_path x i e).0 in let bad : ⊥ = omega arith in absurd bad
done_number arcs before next marks path order x (Done i) is empty met e = (i, e)

pub search_sorted : (count : ℕ) (arcs : List Arc) (before next : List (Option ℕ)) (marks : List Mark) (path order : List ℕ) → IsSearch arcs before next marks path order → length path ≡ 0 →
    length marks ≡ count → AreNumbered count arcs → ((x : ℕ) → x < count → IsMet marks x) → IsSorted count arcs order
search_sorted count arcs before next marks path order is empty size numbered met = record {
  within = λ i lt. let o = (is.order_marked i lt).0 in omega arith;
  whole = λ x lt. let d = done_number arcs before next marks path order x (mark marks x) is empty (met x lt) refl in let o = is.marked_order x d.0 d.1 in (d.0, o.0, o.1);
  distinct = λ i j lt jl e.
      let q : Done i ≡ Done j = sym (is.order_marked i (omega arith)).1 ∙ ap (mark marks) e ∙ (is.order_marked j jl).1 in
      let k : i ≡ j = cc in let bad : ⊥ = omega arith in bad;
  before = λ s lt.
      let f : ℕ = (arc_at arcs s).from in
      let d = done_number arcs before next marks path order (arc_at arcs s).from (mark marks (arc_at arcs s).from) is empty (met (arc_at arcs s).from (numbered s lt).0) refl in
      let o = is.done_arcs s d.0 lt d.1 in
      let a = is.marked_order (arc_at arcs s).from d.0 d.1 in
      (o.0, d.0, o.1, a.0, (is.marked_order (arc_at arcs s).to o.0 o.2).1, a.1);
}

at_drop : (numbers : List ℕ) (start i : ℕ) → number_in_place (drop start numbers) i ≡ number_in_place numbers (start + i)
at_drop numbers start i = get_or-drop start numbers i 0

pub search_cycle : (arcs : List Arc) (before next : List (Option ℕ)) (marks : List Mark) (path order : List ℕ) (start : ℕ) → IsSearch arcs before next marks path order → IsBack arcs path (Some start) → IsCycle arcs (drop start path)
search_cycle arcs before next marks path order start is back =
    let long : length (drop start path) ≡ length path - start = length-drop start path in
    let lt = back.0 in
    record {
      some = omega arith;
      distinct = λ i j ij jl e.
          let q : OnPath (start + i) ≡ OnPath (start + j) = sym (is.path_marked (start + i) (omega arith)).1 ∙ ap (mark marks) (sym (at_drop path start i) ∙ e ∙ at_drop path start j) ∙ (is.path_marked (start + j) (omega arith)).1 in
          let k : start + i ≡ start + j = cc in let bad : ⊥ = omega arith in bad;
      onward = λ i il.
          let h = is.path_arcs (start + i) (omega arith) in
          (h.0, h.1, h.2 ∙ sym (at_drop path start i), h.3 ∙ ap (number_in_place path) (let r : start + i + 1 ≡ start + (i + 1) = omega arith in r) ∙ sym (at_drop path start (i + 1)));
      round = λ i e.
          let h = back.1 (start + i) (omega arith) in
          (h.0, h.1, h.2 ∙ sym (at_drop path start i), h.3 ∙ ap (number_in_place path) (let r : start ≡ start + 0 = omega arith in r) ∙ sym (at_drop path start 0));
    }
