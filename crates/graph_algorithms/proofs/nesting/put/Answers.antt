use Rattle.std.proofs.Common.{rules, arith, refl, ◌<◌, length, length-set, ◌∙◌, slice_index}
use Rattle.graph_algorithms.proofs.NestingPassLaws.{node_within, put_more}
use Rattle.graph_algorithms.proofs.nesting.put.Goals as goal

pub offset_bounds-innermost-node : goal.offset_bounds-innermost-node
offset_bounds-innermost-node c =
    let il : c.loop-node.node-index < length c.args.body.now = search rules in
    let lt : slice_index c.args.body.now c.loop-node.node-index < length c.args.innermost.now = node_within c.args.body.now c.loop-node.node-index _ il c.requires.within in
    search rules

pub bounds-innermost-node : goal.bounds-innermost-node
bounds-innermost-node c =
    let il : c.loop-node.node-index < length c.args.body.now = search rules in
    let lt : slice_index c.args.body.now c.loop-node.node-index < length c.args.innermost.now = node_within c.args.body.now c.loop-node.node-index _ il c.requires.within in
    omega (arith, lt, c.loop-node.invariant.size)

pub loop-node-preserved : goal.loop-node-preserved
loop-node-preserved c =
    let il : c.loop-node.node-index < length c.args.body.now = search rules in
    record {
      size = length-set c.loop-node.innermost _ _ ∙ c.loop-node.invariant.size;
      put = put_more c.args.innermost.now c.loop-node.innermost c.args.body.now c.loop-node.node-index c.args.number (slice_index c.args.body.now c.loop-node.node-index) il refl c.loop-node.invariant.size c.loop-node.invariant.put;
    }
