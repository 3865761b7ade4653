use Rattle.std.proofs.Common.{◌≡◌, ◌+◌, ◌<◌, ◌≤◌, length, slice_index, arith, sym, subst}
use Rattle.cost_theory.specs.Accepted.{IsNode}
use Rattle.flow_graph.specs.FlowGraph.{graph}
use Rattle.worst_cycles.specs.Worst.{by_edge}
use Rattle.worst_cycles.proofs.OverLaws.{IsPlainMost, plain_raised, plain_kept, plain_found}
use Rattle.worst_cycles.proofs.visits.plain_at_node.Goals as goal
use Rattle.worst_cycles.proofs.visits.plain_at_node.Goals.{then-cycles-most, else-cycles-most}

pub loop-e-preserved : goal.loop-e-preserved
loop-e-preserved c = λ n s known.
    let within = c.edges_of-first.ensures.within in
    let low : c.edges_of-first.result.0 ≤ c.loop-e.e = omega arith in
    let high : c.loop-e.e < c.edges_of-first.result.1 = omega arith in
    let lt : c.loop-e.e < length c.args.planned.now.graph.now.code.edges = omega arith in
    let before = c.loop-e.invariant n s known in
    let this = c.over-cycles.ensures.over n s (known c.loop-e.e lt ((c.edges_of-first.ensures.edges c.loop-e.e lt).1 (low, high))) in
    elim c.if-cycles-most.branch [
      | then-cycles-most w ↦ subst (IsPlainMost c.args.planned.now.graph.now c.args.planned.now.tree.now (by_edge c.args.planned.now.weights.now) n c.edges_of-first.result.0 (c.loop-e.e + 1)) (sym w.most-is)
          (plain_raised c.over-cycles.result low before this w.if-cycles-most.true)
      | else-cycles-most w ↦ subst (IsPlainMost c.args.planned.now.graph.now c.args.planned.now.tree.now (by_edge c.args.planned.now.weights.now) n c.edges_of-first.result.0 (c.loop-e.e + 1)) (sym w.most-is)
          (plain_kept c.over-cycles.result before this w.if-cycles-most.false)
    ]

pub returns : goal.returns
returns c = λ n s known.
    let within = c.edges_of-first.ensures.within in
    let lt : c.edges_of-first.result.0 < length c.args.planned.now.graph.now.code.edges = omega arith in
    let node : IsNode (graph c.args.planned.now.graph.now) (slice_index c.args.planned.now.graph.now.code.nodes c.args.k) =
    (c.edges_of-first.result.0, lt, (c.edges_of-first.ensures.edges c.edges_of-first.result.0 lt).1 ((let r : c.edges_of-first.result.0 ≤ c.edges_of-first.result.0 = omega arith in r), within.0)) in
    let last : c.loop-e.e ≡ c.edges_of-first.result.1 = omega arith in
    let most = subst (λ e. IsPlainMost c.args.planned.now.graph.now c.args.planned.now.tree.now (by_edge c.args.planned.now.weights.now) n c.edges_of-first.result.0 e c.loop-e.most) last (c.loop-e.invariant n s known) in
    plain_found (slice_index c.args.planned.now.graph.now.code.nodes c.args.k) most
    c.edges_of-first.ensures.edges within.1 (s.plain (slice_index c.args.planned.now.graph.now.code.nodes c.args.k) node)
