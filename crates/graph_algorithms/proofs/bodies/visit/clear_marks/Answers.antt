use Rattle.std.proofs.Common.{rules, ◌≡◌, ◌<◌, length, arith, Some, slice_index_or}
use Rattle.std.specs.Prelude.{slice_get}
use Rattle.std.proofs.lemmas.Option.{slice_get-get_or}
use Rattle.graph_algorithms.proofs.BodyLaws.{flag_within, left_next, left_end}
use Rattle.graph_algorithms.proofs.bodies.visit.clear_marks.Goals as goal

pub bounds-found-node : goal.bounds-found-node
bounds-found-node c =
    let index = c.loop-node.node-index in
    let lt : c.loop-node.node-index < length c.args.body.now = search rules in
    let within = flag_within c.args.found.now (slice_index_or c.args.body.now index 0) (c.requires.flagged index _ (slice_get-get_or c.args.body.now index 0 lt)) in
    omega (arith, c.loop-node.auto.found)

pub loop-node-preserved : goal.loop-node-preserved
loop-node-preserved c =
    let index = c.loop-node.node-index in
    let lt : c.loop-node.node-index < length c.args.body.now = search rules in
    let at : slice_get c.args.body.now c.loop-node.node-index ≡ Some (slice_index_or c.args.body.now c.loop-node.node-index 0) = slice_get-get_or c.args.body.now index 0 lt in
    let within = flag_within c.args.found.now (slice_index_or c.args.body.now index 0) (c.requires.flagged index _ at) in
    left_next c.loop-node.found c.args.body.now index (slice_index_or c.args.body.now index 0) (omega (arith, c.loop-node.auto.found)) at c.loop-node.invariant

pub returns : goal.returns
returns c = left_end c.loop-node.found c.args.body.now c.loop-node.node-index (search rules) c.loop-node.invariant
