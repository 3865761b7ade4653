use Rattle.std.proofs.Common.{rules, ◌≡◌, ◌<◌, length, arith, slice_index_or, subst}
use Rattle.std.proofs.lemmas.Option.{slice_get-get_or}
use Rattle.graph_algorithms.specs.Bodies.{AreNodes}
use Rattle.graph_algorithms.proofs.EntryLaws.{mark_start, mark_next, mark_end}
use Rattle.graph_algorithms.proofs.bodies.entries.mark_nodes.Goals as goal

pub loop-node-init : goal.loop-node-init
loop-node-init c = mark_start c.args.found.now c.args.body.now c.requires.unmarked

pub bounds-found-node : goal.bounds-found-node
bounds-found-node c =
    let index = c.loop-node.node-index in
    let lt : c.loop-node.node-index < length c.args.body.now = search rules in
    let within = c.requires.nodes.within index (slice_index_or c.args.body.now index 0) (slice_get-get_or c.args.body.now index 0 lt) in
    omega (arith, c.loop-node.auto.found)

pub loop-node-preserved : goal.loop-node-preserved
loop-node-preserved c =
    let index = c.loop-node.node-index in
    let lt : c.loop-node.node-index < length c.args.body.now = search rules in
    let size : length c.args.found.now ≡ length c.loop-node.found = omega (arith, c.loop-node.auto.found) in
    mark_next c.loop-node.found c.args.body.now index (slice_index_or c.args.body.now index 0) (subst (λ n. AreNodes n c.args.body.now) size c.requires.nodes)
    (slice_get-get_or c.args.body.now index 0 lt) c.loop-node.invariant

pub returns : goal.returns
returns c = mark_end c.loop-node.found c.args.body.now c.loop-node.node-index (search rules) c.loop-node.invariant
