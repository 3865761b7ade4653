-- An order of arcs, turned round, is an order of the nodes along plain edges.
use Rattle.std.proofs.Common.{◌≡◌, ℕ, ◌-◌, ◌<◌, ◌≤◌, Bool, true, nat_eq, List, length, slice_get, slice_index, Option, Some, None, is_some, IsSome, refl, sym, ap, ◌∙◌, arith, ⊎_elim, eqb-true, eq-eqb, unwrap_or, false}
use Rattle.std.proofs.lemmas.Bool.{cases_lt}
use Rattle.std.proofs.lemmas.Option.{slice_get_within, slice_get-get_or, get_or_from_slice_get}
use Rattle.graph_algorithms.specs.declared.orders.Arc.{Arc}
use Rattle.graph_algorithms.specs.Arcs.{arc_at, number_in_place, AreDistinct, IsSorted}
use Rattle.cost_theory.specs.Graph.{Loops, IsPlain, find_below}
use Rattle.cost_theory.specs.Accepted.{IsNode, IsPlainOrder}
use Rattle.cost_theory.proofs.Laws.{find-holds, find-some}
use Rattle.flow_graph.specs.FlowGraph.{FlowGraph, graph, IsFlowGraph}
use Rattle.loop_forest.specs.Tree.{IsAtPlace, ArePlainOrdered}
use Rattle.loop_forest.specs.Arcs.{IsPlainBy, ArePlainArcs}
use Rattle.loop_forest.proofs.Laws.{one_number}

-- a list from its end to its beginning
pub record IsTurned (numbers turned : List ℕ) : Type 0 where
  pub size : length turned ≡ length numbers
  pub each : (i : ℕ) → i < length numbers → number_in_place turned i ≡ number_in_place numbers (length numbers - 1 - i)

-- in a list of distinct numbers each has one place
pub one_place : (numbers : List ℕ) → AreDistinct numbers → (i j : ℕ) → i < length numbers → j < length numbers → number_in_place numbers i ≡ number_in_place numbers j → i ≡ j
one_place numbers distinct i j il jl e = ⊎_elim
    (λ (lt : i < j). absurd (distinct i j lt jl e))
    (λ (le : j ≤ i). ⊎_elim
    (λ (lt : j < i). absurd (distinct j i lt il (sym e)))
    (λ (ge : i ≤ j). let same : i ≡ j = omega arith in same)
    (cases_lt j i))
    (cases_lt i j)

-- where an element of the turned list stood
turned_place : (numbers turned : List ℕ) (i k : ℕ) → IsTurned numbers turned → slice_get turned i ≡ Some k → (i < length numbers) × (number_in_place numbers (length numbers - 1 - i) ≡ k)
turned_place numbers turned i k is e =
    let size = is.size in
    let within : i < length turned = slice_get_within turned i k e in
    let lt : i < length numbers = omega arith in
    (lt, sym (is.each i lt) ∙ get_or_from_slice_get turned i k 0 e)

some_is : (o : Option ℕ) (x : ℕ) → o ≡ Some x → IsSome o
some_is o x e = ap is_some e

pub ordered : (v : FlowGraph) (l : Loops) (backs : List (Option ℕ)) (arcs : List Arc) (order turned : List ℕ) → IsFlowGraph v → ((e : ℕ) → e < length v.code.edges → IsPlain (graph v) l e → IsPlainBy backs e) → ArePlainArcs v backs (length v.code.edges) arcs → IsSorted (length v.code.nodes) arcs order → IsTurned order turned → ArePlainOrdered v l turned
ordered v l backs arcs order turned flow by_plain are sorted is =
    let size = is.size in
    record {
      within = λ i k e. let p = turned_place order turned i k is e in
          let lt = p.0 in let low : number_in_place order (length order - 1 - i) < length v.code.nodes = sorted.within (length order - 1 - i) (omega arith) in let same = p.1 in omega arith;
      whole = λ k lt. let p = sorted.whole k lt in let low = p.1 in
          let at : length order - 1 - p.0 < length order = omega arith in
          let back : length order - 1 - (length order - 1 - p.0) ≡ p.0 = omega arith in
          (length order - 1 - p.0, slice_get-get_or turned (length order - 1 - p.0) 0 (omega arith) ∙ ap Some (is.each (length order - 1 - p.0) at ∙ ap (number_in_place order) back ∙ p.2));
      once = λ i j k p q. let a = turned_place order turned i k is p in let b = turned_place order turned j k is q in
          let il = a.0 in let jl = b.0 in
          let same : length order - 1 - i ≡ length order - 1 - j = one_place order sorted.distinct (length order - 1 - i) (length order - 1 - j) (omega arith) (omega arith) (a.1 ∙ sym b.1) in
          let one : i ≡ j = omega arith in one;
      before = λ e i j a lt plain to p q.
          let s = are.whole e lt (by_plain e lt plain) (some_is ((graph v).target e) a to) in
          let o = sorted.before s.0 s.1 in
          let from_is : p.0 ≡ (arc_at arcs s.0).from = one_number v flow p.0 (arc_at arcs s.0).from ((graph v).source e) p.2 s.2.source in
          let to_is : q.0 ≡ (arc_at arcs s.0).to = one_number v flow q.0 (arc_at arcs s.0).to a q.2 (sym s.2.target ∙ to) in
          let ip = turned_place order turned i p.0 is p.1 in
          let jp = turned_place order turned j q.0 is q.1 in
          let il = ip.0 in let jl = jp.0 in let rises = o.2 in let high = o.3 in
          let first : length order - 1 - j ≡ o.0 = one_place order sorted.distinct (length order - 1 - j) o.0 (omega arith) (omega arith) (jp.1 ∙ to_is ∙ sym o.4) in
          let second : length order - 1 - i ≡ o.1 = one_place order sorted.distinct (length order - 1 - i) o.1 (omega arith) high (ip.1 ∙ from_is ∙ sym o.5) in
          let before : i < j = omega arith in before;
    }

-- ---- the place of an address in an order

is_at : FlowGraph → List ℕ → ℕ → ℕ → Bool
is_at v order at i = nat_eq (slice_index v.code.nodes (slice_index order i)) at

pub place_of : FlowGraph → List ℕ → ℕ → ℕ
place_of v order at = unwrap_or (find_below (length order) (is_at v order at)) 0

at_place : (v : FlowGraph) (l : Loops) (order : List ℕ) (at : ℕ) → ArePlainOrdered v l order → IsNode (graph v) at → IsFlowGraph v → (place_of v order at < length order) × IsAtPlace v order (place_of v order at) at
unfolding is_at place_of
at_place v l order at are node flow = go (find_below (length order) (is_at v order at)) refl
  where
    k : (k : ℕ) × (slice_get v.code.nodes k ≡ Some at)
    k = (flow.nodes at).1 node

    i : (i : ℕ) × (slice_get order i ≡ Some k.0)
    i = are.whole k.0 (slice_get_within v.code.nodes k.0 at k.1)

    found : IsSome (find_below (length order) (is_at v order at))
    found =
        let here : slice_index v.code.nodes (slice_index order i.0) ≡ at = ap (slice_index v.code.nodes) (get_or_from_slice_get order i.0 k.0 0 i.1) ∙ get_or_from_slice_get v.code.nodes k.0 at 0 k.1 in
        find-some (length order) (is_at v order at) i.0 (slice_get_within order i.0 k.0 i.1) (eq-eqb _ _ here)

    go : (o : Option ℕ) → find_below (length order) (is_at v order at) ≡ o → (unwrap_or o 0 < length order) × IsAtPlace v order (unwrap_or o 0) at
    go None e = let bad : false ≡ true = sym (ap is_some e) ∙ found in let no_way : ⊥ = cc in absurd no_way
    go (Some j) e =
        let h = find-holds (length order) (is_at v order at) j e in
        let here : slice_get order j ≡ Some (slice_index order j) = slice_get-get_or order j 0 h.0 in
        (h.0, (slice_index order j, here, slice_get-get_or v.code.nodes (slice_index order j) 0 (are.within j (slice_index order j) here) ∙ ap Some (eqb-true _ _ h.1)))

pub plain_order : (v : FlowGraph) (l : Loops) (order : List ℕ) → IsFlowGraph v → ArePlainOrdered v l order → IsPlainOrder (graph v) l (length order) (place_of v order)
plain_order v l order flow are = record {
  below = λ at node. (at_place v l order at are node flow).0;
  rises = λ e a lt plain to. are.before e (place_of v order ((graph v).source e)) (place_of v order a) a lt plain to
      (at_place v l order ((graph v).source e) are (e, lt, refl) flow).1
      (at_place v l order a are (flow.program.stays e a lt to).0 flow).1;
}
