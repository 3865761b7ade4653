use Rattle.std.proofs.Common.{◌≡◌, ◌<◌, ℕ, length, inr, sym, ap, ◌∙◌, subst}
use Rattle.std.proofs.lemmas.List.{length-reverse, get_or-reverse}
use Rattle.graph_algorithms.specs.Arcs.{number_in_place, AreNumbered, IsAnswer, IsSorted, IsCycle}
use Rattle.graph_algorithms.specs.Nesting.{bodies_of}
use Rattle.loop_forest.specs.Found.{LoopsView}
use Rattle.loop_forest.specs.Arcs.{IsRoundOfNodes}
use Rattle.loop_tree.specs.Backs.{AreLoopLists, AreBacks}
use Rattle.loop_tree.proofs.ArcLaws.{arcs_numbered, round_of_arcs}
use Rattle.loop_tree.proofs.OrderLaws.{IsTurned}
use Rattle.loop_tree.proofs.TreeLaws.{lists_of, plain_ordered, cycle_refused}
use Rattle.loop_tree.proofs.build_loops.Goals as goal

pub back_loops-requires-clause-loops : goal.back_loops-requires-clause-loops
back_loops-requires-clause-loops c =
    let hs : c.in_ok-found.found.headers ≡ c.deref.result.now = sym (c.deref.ensures.value ∙ ap (λ (t : LoopsView). t.headers) c.found.view_is) in
    let bs : c.in_ok-found.found.bodies ≡ bodies_of c.deref-2.result.now = sym (ap bodies_of c.deref-2.ensures.value ∙ ap (λ (t : LoopsView). t.bodies) c.found.view_is) in
    subst (λ xs. AreLoopLists c.args.graph.now c.deref.result.now xs) bs
    (subst (λ xs. AreLoopLists c.args.graph.now xs c.in_ok-found.found.bodies) hs (lists_of c.args.graph.now c.args.notes.now c.in_ok-found.found c.in_ok-found.ensures))

pub sort-requires-clause-numbered : goal.sort-requires-clause-numbered
sort-requires-clause-numbered c =
    subst (λ n. AreNumbered n c.deref-4.result.now) (sym c.node_count-count.ensures.count)
    (subst (AreNumbered (length c.args.graph.now.code.nodes)) (sym c.deref-4.ensures.value) (arcs_numbered c.args.graph.now c.deref-3.result.now _ c.in_ok-arcs.arcs.items c.in_ok-arcs.ensures.arcs))

pub assemble-requires-clause-order : goal.assemble-requires-clause-order
assemble-requires-clause-order c =
    let hs : c.deref.result.now ≡ c.in_ok-found.found.headers = c.deref.ensures.value ∙ ap (λ (t : LoopsView). t.headers) c.found.view_is in
    let bs : bodies_of c.deref-2.result.now ≡ c.in_ok-found.found.bodies = ap bodies_of c.deref-2.ensures.value ∙ ap (λ (t : LoopsView). t.bodies) c.found.view_is in
    let all : AreBacks c.args.graph.now c.in_ok-found.found.headers c.in_ok-found.found.bodies (length c.args.graph.now.code.edges) c.deref-3.result.now =
    subst (λ xs. AreBacks c.args.graph.now c.in_ok-found.found.headers c.in_ok-found.found.bodies (length c.args.graph.now.code.edges) xs) (sym c.deref-3.ensures.value)
    (subst (λ xs. AreBacks c.args.graph.now c.in_ok-found.found.headers xs (length c.args.graph.now.code.edges) c.in_ok-backs.backs.items) bs
    (subst (λ xs. AreBacks c.args.graph.now xs (bodies_of c.deref-2.result.now) (length c.args.graph.now.code.edges) c.in_ok-backs.backs.items) hs c.in_ok-backs.ensures)) in
    let sorted : IsSorted (length c.args.graph.now.code.nodes) c.in_ok-arcs.arcs.items c.in-Sorted.order.items =
    subst (λ xs. IsSorted (length c.args.graph.now.code.nodes) xs c.in-Sorted.order.items) c.deref-4.ensures.value
    (subst (λ n. IsSorted n c.deref-4.result.now c.in-Sorted.order.items) c.node_count-count.ensures.count
    (subst (IsAnswer c.node_count-count.result c.deref-4.result.now) c.in-Sorted.is c.in_ok-order.ensures.answer)) in
    let turned : IsTurned c.in-Sorted.order.items c.reverse.new.self.items = record {
      size = ap length c.reverse.ensures.items ∙ length-reverse c.in-Sorted.order.items;
      each = λ i lt. ap (λ xs. number_in_place xs i) c.reverse.ensures.items ∙ get_or-reverse c.in-Sorted.order.items i 0 lt;
    } in
    plain_ordered c.args.graph.now c.args.notes.now c.in_ok-found.found c.deref-3.result.now c.in_ok-arcs.arcs.items c.in-Sorted.order.items c.reverse.new.self.items c.node_count-count.ensures.graph c.in_ok-found.ensures all c.in_ok-arcs.ensures.arcs sorted turned

pub cycle_of-requires-clause-some : goal.cycle_of-requires-clause-some
cycle_of-requires-clause-some c =
    let answer = subst (IsAnswer c.node_count-count.result c.deref-4.result.now) c.in-Cycle.is c.in_ok-order.ensures.answer in
    subst (λ xs. 0 < length xs) (sym c.deref-in-Cycle.ensures.value) answer.some

pub cycle_of-requires-clause-within : goal.cycle_of-requires-clause-within
cycle_of-requires-clause-within c =
    let answer = subst (IsAnswer c.node_count-count.result c.deref-4.result.now) c.in-Cycle.is c.in_ok-order.ensures.answer in
    let round = round_of_arcs c.args.graph.now c.deref-3.result.now c.in_ok-arcs.arcs.items c.in-Cycle.numbers.items c.in_ok-arcs.ensures.arcs (subst (λ xs. IsCycle xs c.in-Cycle.numbers.items) c.deref-4.ensures.value answer) in
    subst (λ xs. (i : ℕ) → i < length xs → number_in_place xs i < length c.args.graph.now.code.nodes) (sym c.deref-in-Cycle.ensures.value) round.within

pub returns-in_ok-cycle-in-Cycle : goal.returns-in_ok-cycle-in-Cycle
returns-in_ok-cycle-in-Cycle c =
    let hs : c.deref.result.now ≡ c.in_ok-found.found.headers = c.deref.ensures.value ∙ ap (λ (t : LoopsView). t.headers) c.found.view_is in
    let bs : bodies_of c.deref-2.result.now ≡ c.in_ok-found.found.bodies = ap bodies_of c.deref-2.ensures.value ∙ ap (λ (t : LoopsView). t.bodies) c.found.view_is in
    let all : AreBacks c.args.graph.now c.in_ok-found.found.headers c.in_ok-found.found.bodies (length c.args.graph.now.code.edges) c.deref-3.result.now =
    subst (λ xs. AreBacks c.args.graph.now c.in_ok-found.found.headers c.in_ok-found.found.bodies (length c.args.graph.now.code.edges) xs) (sym c.deref-3.ensures.value)
    (subst (λ xs. AreBacks c.args.graph.now c.in_ok-found.found.headers xs (length c.args.graph.now.code.edges) c.in_ok-backs.backs.items) bs
    (subst (λ xs. AreBacks c.args.graph.now xs (bodies_of c.deref-2.result.now) (length c.args.graph.now.code.edges) c.in_ok-backs.backs.items) hs c.in_ok-backs.ensures)) in
    let answer = subst (IsAnswer c.node_count-count.result c.deref-4.result.now) c.in-Cycle.is c.in_ok-order.ensures.answer in
    let round = round_of_arcs c.args.graph.now c.deref-3.result.now c.in_ok-arcs.arcs.items c.in-Cycle.numbers.items c.in_ok-arcs.ensures.arcs (subst (λ xs. IsCycle xs c.in-Cycle.numbers.items) c.deref-4.ensures.value answer) in
    let here : IsRoundOfNodes c.args.graph.now c.deref-3.result.now c.deref-in-Cycle.result.now = subst (IsRoundOfNodes c.args.graph.now c.deref-3.result.now) (sym c.deref-in-Cycle.ensures.value) round in
    inr (cycle_refused c.args.graph.now c.args.notes.now c.in_ok-found.found c.deref-3.result.now c.in_ok-cycle-in-Cycle.cycle c.in_ok-found.ensures all (c.in_ok-cycle-in-Cycle.ensures c.deref-3.result.now here))
