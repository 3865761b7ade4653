use Rattle.std.proofs.Common.{rules, arith, refl, ◌≤◌}
use Rattle.graph_algorithms.proofs.GroupLaws.{aside_none, aside_next, aside_all}
use Rattle.graph_algorithms.proofs.bodies.groups.find_aside.Goals as goal

pub loop-node-init : goal.loop-node-init
loop-node-init c = aside_none c.args.edges.now c.args.bodies.now c.args.headers.now c.args.nodes.from (λ v i h. (c.requires.nodes v i h).0)

pub loop-node-preserved : goal.loop-node-preserved
loop-node-preserved c = aside_next c.args.edges.now c.args.bodies.now c.args.headers.now c.loop-node.node c.loop-node.aside c.entered_bits-aside.result _ (c.type_inv.bodies c.loop-node.node).fits (c.type_inv.headers c.loop-node.node).fits c.entered_bits-aside.ensures refl c.loop-node.invariant

pub returns : goal.returns
returns c =
    let end : c.args.nodes.to ≤ c.loop-node.node = search rules in
    aside_all c.args.edges.now c.args.bodies.now c.args.headers.now c.loop-node.node c.loop-node.aside (λ v i h. let lt = (c.requires.nodes v i h).1 in omega arith) c.loop-node.invariant
