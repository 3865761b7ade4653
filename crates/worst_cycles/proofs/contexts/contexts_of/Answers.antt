use Rattle.std.proofs.Common.{◌≡◌, ◌+◌, ◌-◌, ◌<◌, length, arith, sym, ap, ◌∙◌, subst}
use Rattle.std.proofs.lemmas.List.{get_or-replicate}
use Rattle.graph_algorithms.specs.Arcs.{number_in_place}
use Rattle.flow_graph.specs.FlowGraph.{graph}
use Rattle.loop_forest.specs.Noted.{node_address}
use Rattle.loop_forest.specs.Tree.{loops}
use Rattle.worst_cycles.specs.Worst.{by_edge}
use Rattle.worst_cycles.specs.Lefts.{AreContextsTo, AreContextsRaised}
use Rattle.worst_cycles.proofs.SearchLaws.{value_at}
use Rattle.worst_cycles.proofs.ContextLaws.{contexts_first, own_context, contexts_more, contexts_last}
use Rattle.worst_cycles.proofs.contexts.contexts_of.Goals as goal

pub loop-i-init : goal.loop-i-init
loop-i-init c =
    let same : length c.args.visited.now.planned.plan.now.order.items ≡ c.len-i.result = omega arith in
    let items = c.in_ok-context.ensures.items_if_clones_equal (λ y is. is) in
    let count = c.function_count.ensures.count in
    record {
      within = omega arith;
      size = let len = c.in_ok-context.ensures.len in let r : length c.in_ok-context.context.items ≡ length c.args.visited.now.planned.graph.now.code.functions = omega arith in r;
      contexts = subst (λ i. AreContextsTo c.args.visited.now.planned.graph.now c.args.visited.now.planned.tree.now (by_edge c.args.visited.now.planned.weights.now) c.args.visited.now.planned.plan.now i c.in_ok-context.context.items) same
          (contexts_first c.requires.visited.planned c.in_ok-context.context.items
          (λ f fl. ap (λ xs. number_in_place xs f) items ∙ get_or-replicate c.function_count.result f 0 0 (let r : f < c.function_count.result = omega arith in r)));
    }

pub raise_contexts-requires-clause-own : goal.raise_contexts-requires-clause-own
raise_contexts-requires-clause-own c = λ n s.
    let within = c.loop-i.invariant.within in
    let il : c.loop-i.i - 1 < length c.args.visited.now.planned.plan.now.order.items = omega arith in
    let i : c.loop-i.i ≡ c.loop-i.i - 1 + 1 = omega arith in
    let node = value_at c.args.visited.now.planned.plan.now.order.items (c.loop-i.i - 1) c.index.result.now 0 il c.index.ensures in
    subst (λ k. number_in_place c.loop-i.context.items ((graph c.args.visited.now.planned.graph.now).owner (node_address c.args.visited.now.planned.graph.now k)) ≡ n.context ((graph c.args.visited.now.planned.graph.now).owner (node_address c.args.visited.now.planned.graph.now k))) node
    (own_context c.requires.visited.planned c.loop-i.context.items (c.loop-i.i - 1) il
    (subst (λ j. AreContextsTo c.args.visited.now.planned.graph.now c.args.visited.now.planned.tree.now (by_edge c.args.visited.now.planned.weights.now) c.args.visited.now.planned.plan.now j c.loop-i.context.items) i c.loop-i.invariant.contexts) s)

pub loop-i-preserved : goal.loop-i-preserved
loop-i-preserved c =
    let within = c.loop-i.invariant.within in
    let il : c.loop-i.i - 1 < length c.args.visited.now.planned.plan.now.order.items = omega arith in
    let i : c.loop-i.i ≡ c.loop-i.i - 1 + 1 = omega arith in
    let node = value_at c.args.visited.now.planned.plan.now.order.items (c.loop-i.i - 1) c.index.result.now 0 il c.index.ensures in
    record {
      within = omega arith;
      size = c.raise_contexts.ensures.size ∙ c.loop-i.invariant.size;
      contexts = contexts_more c.requires.visited.planned c.loop-i.context.items c.raise_contexts.new.context.items (c.loop-i.i - 1) il
          (λ n s. subst (λ k. AreContextsRaised (graph c.args.visited.now.planned.graph.now) (loops c.args.visited.now.planned.graph.now c.args.visited.now.planned.tree.now) (by_edge c.args.visited.now.planned.weights.now) n (node_address c.args.visited.now.planned.graph.now k) c.loop-i.context.items c.raise_contexts.new.context.items) (sym node) (c.raise_contexts.ensures.raised n s))
          (subst (λ j. AreContextsTo c.args.visited.now.planned.graph.now c.args.visited.now.planned.tree.now (by_edge c.args.visited.now.planned.weights.now) c.args.visited.now.planned.plan.now j c.loop-i.context.items) i c.loop-i.invariant.contexts);
    }

pub returns : goal.returns
returns c =
    let zero : c.loop-i.i ≡ 0 = omega arith in
    contexts_last c.args.visited.now.planned.graph.now c.args.visited.now.planned.tree.now (by_edge c.args.visited.now.planned.weights.now) c.args.visited.now.planned.plan.now c.loop-i.context.items c.loop-i.invariant.size
    (subst (λ i. AreContextsTo c.args.visited.now.planned.graph.now c.args.visited.now.planned.tree.now (by_edge c.args.visited.now.planned.weights.now) c.args.visited.now.planned.plan.now i c.loop-i.context.items) zero c.loop-i.invariant.contexts)

pub raise_contexts-requires-clause-node : goal.raise_contexts-requires-clause-node
raise_contexts-requires-clause-node c =
    let within = c.loop-i.invariant.within in
    let il : c.loop-i.i - 1 < length c.args.visited.now.planned.plan.now.order.items = omega arith in
    let node : number_in_place c.args.visited.now.planned.plan.now.order.items (c.loop-i.i - 1) ≡ c.index.result.now = value_at c.args.visited.now.planned.plan.now.order.items (c.loop-i.i - 1) c.index.result.now 0 il c.index.ensures in
    subst (λ k. k < length c.args.visited.now.planned.graph.now.code.nodes) node (c.requires.visited.planned.plan.order.within (c.loop-i.i - 1) il)
