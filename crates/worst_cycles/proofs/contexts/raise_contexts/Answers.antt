use Rattle.std.proofs.Common.{◌≡◌, ℕ, ◌+◌, ◌<◌, ◌≤◌, length, Vec, Global, arith, sym, ap, ◌∙◌, subst}
use Rattle.graph_algorithms.specs.Arcs.{number_in_place}
use Rattle.flow_graph.specs.FlowGraph.{graph}
use Rattle.loop_forest.specs.Noted.{node_address}
use Rattle.loop_forest.specs.Tree.{loops}
use Rattle.worst_cycles.specs.Worst.{by_edge}
use Rattle.worst_cycles.proofs.SearchLaws.{value_at}
use Rattle.worst_cycles.proofs.WorstLaws.{entry_worst}
use Rattle.worst_cycles.proofs.ContextLaws.{AreRaisedTo, raised_more, raised_on, raised_last, context_value, left_around_small, owner_function}
use Rattle.worst_cycles.proofs.contexts.raise_contexts.Goals as goal
use Rattle.worst_cycles.proofs.contexts.raise_contexts.Goals.{in-Some, in_default}

pub overflow_add-behind : goal.overflow_add-behind
overflow_add-behind c =
    let small = left_around_small c.args.k c.requires.visited.planned.flow c.requires.visited.solved c.requires.left c.requires.around c.requires.node in
    let less = c.saturating_sub.ensures in
    omega arith

pub overflow_add-behind-in-Some : goal.overflow_add-behind-in-Some
overflow_add-behind-in-Some c =
    let small = left_around_small c.args.k c.requires.visited.planned.flow c.requires.visited.solved c.requires.left c.requires.around c.requires.node in
    let less = c.saturating_sub.ensures in
    let fl : (graph c.args.visited.now.planned.graph.now).owner (node_address c.args.visited.now.planned.graph.now c.args.k) < length c.args.visited.now.planned.graph.now.code.functions = owner_function c.args.visited.now.planned.graph.now c.args.k c.requires.visited.planned.flow c.requires.node in
    let n = c.requires.visited.solved in
    let owner = c.owner.ensures.owner in
    let size = c.requires.size in
    let low : c.owner.result < length c.args.context.now.items = omega arith in
    let value : number_in_place c.args.context.now.items c.owner.result ≡ c.index-own.result.now = value_at c.args.context.now.items c.owner.result c.index-own.result.now 0 low c.index-own.ensures in
    let own : number_in_place c.args.context.now.items c.owner.result ≡ n.0.context ((graph c.args.visited.now.planned.graph.now).owner (node_address c.args.visited.now.planned.graph.now c.args.k)) = ap (number_in_place c.args.context.now.items) owner ∙ c.requires.own n.0 n.1 in
    let within = n.1.context_within ((graph c.args.visited.now.planned.graph.now).owner (node_address c.args.visited.now.planned.graph.now c.args.k)) fl in
    let worst = n.2 in
    omega arith

pub loop-e-preserved : goal.loop-e-preserved
loop-e-preserved c =
    let within = c.edges_of-first.ensures.within in
    let low : c.edges_of-first.result.0 ≤ c.loop-e.e = omega arith in
    let high : c.loop-e.e < c.edges_of-first.result.1 = omega arith in
    let lt : c.loop-e.e < length c.args.visited.now.planned.graph.now.code.edges = omega arith in
    let from : (graph c.args.visited.now.planned.graph.now).source c.loop-e.e ≡ node_address c.args.visited.now.planned.graph.now c.args.k = (c.edges_of-first.ensures.edges c.loop-e.e lt).1 (low, high) in
    let fl : (graph c.args.visited.now.planned.graph.now).owner (node_address c.args.visited.now.planned.graph.now c.args.k) < length c.args.visited.now.planned.graph.now.code.functions = owner_function c.args.visited.now.planned.graph.now c.args.k c.requires.visited.planned.flow c.requires.node in
    let size = c.requires.size in
    let owner = c.owner.ensures.owner in
    let ol : c.owner.result < length c.args.context.now.items = omega arith in
    let value : number_in_place c.args.context.now.items c.owner.result ≡ c.index-own.result.now = value_at c.args.context.now.items c.owner.result c.index-own.result.now 0 ol c.index-own.ensures in
    elim c.match-comes_back.branch [
      | in-Some w ↦
          let items : c.match-comes_back.context.items ≡ w.raise.new.table.items = ap (λ (v : Vec ℕ Global). v.items) w.context-is in
          rw items (record {
            size = w.raise.ensures.size ∙ c.loop-e.invariant.size;
            raised = λ n s. raised_more
                (w.saturating_sub.result + number_in_place c.args.around.now c.args.k + c.index-own.result.now) w.raise.new.table.items from (c.comes_back.ensures.some w.in-Some.f w.in-Some.is)
                (context_value (graph c.args.visited.now.planned.graph.now) (loops c.args.visited.now.planned.graph.now c.args.visited.now.planned.tree.now) (by_edge c.args.visited.now.planned.weights.now) n c.loop-e.e (node_address c.args.visited.now.planned.graph.now c.args.k) (number_in_place c.args.left.now c.args.k) w.cost_of-cost.result (number_in_place c.args.around.now c.args.k) c.index-own.result.now
                (w.saturating_sub.result + number_in_place c.args.around.now c.args.k + c.index-own.result.now) from (c.requires.left.each n s c.args.k c.requires.node)
                (w.cost_of-cost.ensures.cost n (λ f calls. entry_worst f c.requires.visited.planned.plan.entries c.requires.visited.visits s (c.requires.visited.planned.flow.program.callee_function c.loop-e.e f lt calls)))
                (c.requires.around.each n s c.args.k c.requires.node) (sym value ∙ ap (number_in_place c.args.context.now.items) owner ∙ c.requires.own n s) (let less = w.saturating_sub.ensures in omega arith))
                w.raise.ensures.higher w.raise.ensures.over w.raise.ensures.either w.raise.ensures.others (c.loop-e.invariant.raised n s);
          })
      | in_default w ↦
          let items : c.match-comes_back.context.items ≡ c.loop-e.context.items = ap (λ (v : Vec ℕ Global). v.items) w.context-is in
          rw items (record {
            size = c.loop-e.invariant.size;
            raised = λ n s. raised_on
                (λ f call. w.in_default.not-Some f (c.comes_back.ensures.whole f call)) (c.loop-e.invariant.raised n s);
          })
    ]

pub returns-clause-raised : goal.returns-clause-raised
returns-clause-raised c = λ n s.
    let within = c.edges_of-first.ensures.within in
    let last : c.loop-e.e ≡ c.edges_of-first.result.1 = omega arith in
    raised_last c.args.visited.now.planned.graph.now c.args.visited.now.planned.tree.now c.args.k
    (λ e lt from. (c.edges_of-first.ensures.edges e lt).0 from)
    (subst (λ e. AreRaisedTo (graph c.args.visited.now.planned.graph.now) (loops c.args.visited.now.planned.graph.now c.args.visited.now.planned.tree.now) (by_edge c.args.visited.now.planned.weights.now) n (node_address c.args.visited.now.planned.graph.now c.args.k) c.edges_of-first.result.0 e c.args.context.now.items c.loop-e.context.items) last (c.loop-e.invariant.raised n s))

pub raise-requires : goal.raise-requires
raise-requires c =
    let within = c.edges_of-first.ensures.within in
    let lt : c.loop-e.e < length c.args.visited.now.planned.graph.now.code.edges = omega arith in
    let call = c.comes_back.ensures.some c.in-Some.f c.in-Some.is in
    subst (λ n. c.in-Some.f < n) (sym (c.loop-e.invariant.size ∙ c.requires.size)) (c.requires.visited.planned.flow.program.callee_function c.loop-e.e c.in-Some.f lt call.calls)

pub returns-clause-size : goal.returns-clause-size
returns-clause-size c = c.loop-e.invariant.size
