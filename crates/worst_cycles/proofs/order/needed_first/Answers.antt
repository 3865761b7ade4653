use Rattle.std.proofs.Common.{◌≡◌, length, true, false, sym, ap, ◌∙◌, subst}
use Rattle.graph_algorithms.specs.Arcs.{AreNumbered, IsAnswer, IsSorted, is_sorted}
use Rattle.worst_cycles.specs.Needs.{AreNeeds}
use Rattle.worst_cycles.proofs.NeedLaws.{needs_numbered, sorted_needed}
use Rattle.worst_cycles.proofs.FallLaws.{no_needs_round}
use Rattle.worst_cycles.proofs.order.needed_first.Goals as goal

pub sort-requires-clause-numbered : goal.sort-requires-clause-numbered
sort-requires-clause-numbered c =
    let needs = subst (AreNeeds c.args.graph.now c.args.tree.now.backs c.args.entries.now (length c.args.graph.now.code.edges)) (sym c.deref.ensures.value) c.in_ok-add_calls.ensures.needs in
    subst (λ n. AreNumbered n c.deref.result.now) (sym c.requires.count) (needs_numbered c.args.graph.now c.args.tree.now.backs c.args.entries.now (length c.args.graph.now.code.edges) c.deref.result.now c.requires.flow c.requires.entries needs)

pub unreachable-requires : goal.unreachable-requires
unreachable-requires c =
    let needs = subst (AreNeeds c.args.graph.now c.args.tree.now.backs c.args.entries.now (length c.args.graph.now.code.edges)) (sym c.deref.ensures.value) c.in_ok-add_calls.ensures.needs in
    let yes : is_sorted c.in_ok-order.field-0 ≡ true = c.in_ok-order.ensures.exactly.1 (no_needs_round c.args.graph.now c.args.tree.now c.args.entries.now (length c.args.graph.now.code.edges) c.deref.result.now c.requires.flow c.requires.entries c.requires.tree needs) in
    let bad : true ≡ false = sym yes ∙ ap is_sorted c.in-Cycle.is in
    let no_way : ⊥ = cc in no_way

pub returns : goal.returns
returns c =
    let needs = subst (AreNeeds c.args.graph.now c.args.tree.now.backs c.args.entries.now (length c.args.graph.now.code.edges)) (sym c.deref.ensures.value) c.in_ok-add_calls.ensures.needs in
    let sorted : IsSorted (length c.args.graph.now.code.nodes) c.deref.result.now c.in-Sorted.order.items =
    subst (λ n. IsSorted n c.deref.result.now c.in-Sorted.order.items) c.requires.count (subst (IsAnswer c.args.count c.deref.result.now) c.in-Sorted.is c.in_ok-order.ensures.answer) in
    sorted_needed c.args.graph.now c.args.tree.now.backs c.args.entries.now c.deref.result.now c.in-Sorted.order.items c.requires.flow needs sorted
