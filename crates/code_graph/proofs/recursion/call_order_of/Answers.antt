use Rattle.std.proofs.Common.{length, sym, subst}
use Rattle.graph_algorithms.specs.Arcs.{IsAnswer, IsCycle, AreNumbered}
use Rattle.code_graph.specs.Assembling.{AreCallArcs}
use Rattle.code_graph.proofs.CallLaws.{arcs_numbered, cycle_numbered}
use Rattle.code_graph.proofs.recursion.call_order_of.Goals as goal

pub sort-requires-clause-numbered : goal.sort-requires-clause-numbered
sort-requires-clause-numbered c =
    arcs_numbered (length c.args.entries.now) c.args.owners.now c.args.callees.now c.deref.result.now
    (subst (AreCallArcs (length c.args.owners.now) c.args.owners.now c.args.callees.now) (sym c.deref.ensures.value) c.in_ok-arcs.ensures.arcs) c.requires.within

pub cycle_of-requires-clause-within : goal.cycle_of-requires-clause-within
cycle_of-requires-clause-within c =
    let numbered : AreNumbered (length c.args.entries.now) c.deref.result.now = arcs_numbered (length c.args.entries.now) c.args.owners.now c.args.callees.now c.deref.result.now
    (subst (AreCallArcs (length c.args.owners.now) c.args.owners.now c.args.callees.now) (sym c.deref.ensures.value) c.in_ok-arcs.ensures.arcs) c.requires.within in
    let is : IsCycle c.deref.result.now c.in-Cycle.cycle.items = subst (IsAnswer (length c.args.entries.now) c.deref.result.now) c.in-Cycle.is c.in_ok-order.ensures.answer in
    let cycle = cycle_numbered (length c.args.entries.now) c.deref.result.now c.deref-in-Cycle.result.now numbered (subst (IsCycle c.deref.result.now) (sym c.deref-in-Cycle.ensures.value) is) in
    λ i lt. cycle i lt
