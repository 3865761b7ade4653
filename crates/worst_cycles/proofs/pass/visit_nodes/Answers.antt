use Rattle.std.proofs.Common.{◌≡◌, ◌<◌, length, length-set, arith, sym, ◌∙◌, subst}
use Rattle.std.proofs.lemmas.Grind.{common_steps}
use Rattle.graph_algorithms.specs.Arcs.{number_in_place}
use Rattle.cost_theory.specs.Worst.{Numbers}
use Rattle.loop_forest.specs.Noted.{node_address}
use Rattle.loop_forest.specs.Tree.{loops}
use Rattle.worst_cycles.specs.Worst.{by_edge}
use Rattle.worst_cycles.specs.Visits.{AreSolvedBy, IsVisit, AreVisitedTo}
use Rattle.worst_cycles.proofs.SearchLaws.{value_at}
use Rattle.worst_cycles.proofs.VisitLaws.{visited_more, small_more, all_visited}
use Rattle.worst_cycles.proofs.pass.visit_nodes.Goals as goal

pub visit_node-requires-clause-visited : goal.visit_node-requires-clause-visited
visit_node-requires-clause-visited c =
    subst (AreVisitedTo c.args.planned.now.graph.now c.args.planned.now.tree.now (by_edge c.args.planned.now.weights.now) c.args.planned.now.plan.now.order.items c.loop-i.i) (sym c.deref.ensures.value) c.loop-i.invariant.visited

pub loop-i-preserved : goal.loop-i-preserved
loop-i-preserved c =
    let il : c.loop-i.i < length c.args.planned.now.plan.now.order.items = omega arith in
    let node : number_in_place c.args.planned.now.plan.now.order.items c.loop-i.i ≡ c.index.result.now = value_at c.args.planned.now.plan.now.order.items c.loop-i.i c.index.result.now 0 il c.index.ensures in
    let within : number_in_place c.args.planned.now.plan.now.order.items c.loop-i.i < length c.args.planned.now.graph.now.code.nodes = c.requires.planned.plan.order.within c.loop-i.i il in
    let size = c.loop-i.invariant.table.size in
    let low : c.index.result.now < length c.loop-i.visits.items = omega arith in
    let found : (n : Numbers) → AreSolvedBy c.args.planned.now.graph.now c.args.planned.now.tree.now (by_edge c.args.planned.now.weights.now) n → IsVisit (loops c.args.planned.now.graph.now c.args.planned.now.tree.now) n (node_address c.args.planned.now.graph.now c.index.result.now) c.in_ok-visits-2.field-0 =
    λ n s. subst (λ k. IsVisit (loops c.args.planned.now.graph.now c.args.planned.now.tree.now) n (node_address c.args.planned.now.graph.now k) c.in_ok-visits-2.field-0) node (c.in_ok-visits-2.ensures.1 n s) in
    record {
      table = record {
        size = length-set c.loop-i.visits.items c.index.result.now c.in_ok-visits-2.field-0 ∙ size;
        small = small_more c.loop-i.visits.items c.index.result.now c.in_ok-visits-2.field-0 low c.loop-i.invariant.table.small c.in_ok-visits-2.ensures.0;
      };
      visited = visited_more c.args.planned.now.graph.now c.args.planned.now.tree.now (by_edge c.args.planned.now.weights.now) c.args.planned.now.plan.now.order.items c.loop-i.visits.items c.loop-i.i c.index.result.now c.in_ok-visits-2.field-0 node low c.loop-i.invariant.visited found;
    }

pub returns : goal.returns
returns c =
    let last : c.loop-i.i ≡ length c.args.planned.now.plan.now.order.items = omega arith in
    all_visited c.requires.planned c.loop-i.invariant.table
    (subst (λ i. AreVisitedTo c.args.planned.now.graph.now c.args.planned.now.tree.now (by_edge c.args.planned.now.weights.now) c.args.planned.now.plan.now.order.items i c.loop-i.visits.items) last c.loop-i.invariant.visited)

pub index_mut-requires : goal.index_mut-requires
index_mut-requires c =
    let il : c.loop-i.i < length c.args.planned.now.plan.now.order.items = omega arith in
    let node : number_in_place c.args.planned.now.plan.now.order.items c.loop-i.i ≡ c.index.result.now = value_at c.args.planned.now.plan.now.order.items c.loop-i.i c.index.result.now 0 il c.index.ensures in
    let low : c.index.result.now < length c.loop-i.visits.items = subst (λ n. c.index.result.now < n) (sym c.loop-i.invariant.table.size) (subst (λ k. k < length c.args.planned.now.graph.now.code.nodes) node (c.requires.planned.plan.order.within c.loop-i.i il)) in
    omega arith

pub loop-i-init : goal.loop-i-init
loop-i-init c = grind (arith, common_steps)
