use Rattle.std.proofs.Common.{◌≡◌, ◌<◌, ◌≤◌, length, slice_index, arith, subst}
use Rattle.loop_forest.specs.Tree.{loops}
use Rattle.worst_cycles.specs.Worst.{by_edge}
use Rattle.worst_cycles.proofs.BodyLaws.{loop_count}
use Rattle.worst_cycles.proofs.RestLaws.{IsRestMost, rest_more, rest_found}
use Rattle.worst_cycles.proofs.rests.rest_at_node.Goals as goal

pub loop-e-preserved : goal.loop-e-preserved
loop-e-preserved c = λ n s known rests.
    let within = c.edges_of-first.ensures.within in
    let low : c.edges_of-first.result.0 ≤ c.loop-e.e = omega arith in
    let high : c.loop-e.e < c.edges_of-first.result.1 = omega arith in
    let lt : c.loop-e.e < length c.args.planned.now.graph.now.code.edges = omega arith in
    let from = (c.edges_of-first.ensures.edges c.loop-e.e lt).1 (low, high) in
    rest_more c.rest_over.result c.greater-most.result low
    (c.loop-e.invariant n s known rests) (c.rest_over.ensures.rest n s (known c.loop-e.e lt from) (rests c.loop-e.e lt from)) c.greater-most.ensures

pub returns : goal.returns
returns c = λ n s known rests.
    let within = c.edges_of-first.ensures.within in
    let count = loop_count c.args.planned.now.graph.now c.args.planned.now.tree.now in
    let headers = c.requires.within in
    let lt : c.args.l < (loops c.args.planned.now.graph.now c.args.planned.now.tree.now).loops = omega arith in
    let last : c.loop-e.e ≡ c.edges_of-first.result.1 = omega arith in
    let most = subst (λ e. IsRestMost c.args.planned.now.graph.now c.args.planned.now.tree.now (by_edge c.args.planned.now.weights.now) n c.args.l c.edges_of-first.result.0 e c.loop-e.most) last (c.loop-e.invariant n s known rests) in
    rest_found (slice_index c.args.planned.now.graph.now.code.nodes c.args.k) most
    c.edges_of-first.ensures.edges within.1 (s.closing c.args.l (slice_index c.args.planned.now.graph.now.code.nodes c.args.k) lt c.requires.inside)
