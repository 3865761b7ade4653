use Rattle.std.proofs.Common.{rules, arith}
use Rattle.graph_algorithms.proofs.SweepLaws.{searched_same, searched_then}
use Rattle.graph_algorithms.proofs.bodies.sweep.sweep.Goals as goal

pub loop-node-init : goal.loop-node-init
loop-node-init c = record {
  searched = searched_same c.args.edges.now c.args.inside.now c.args.found.now c.args.pending.now c.requires.settled;
  within = search rules;
}

pub loop-node-preserved : goal.loop-node-preserved
loop-node-preserved c = record {
  searched = searched_then c.args.edges.now c.args.inside.now c.args.found.now c.loop-node.found c.visit_node.new.found c.loop-node.pending c.visit_node.new.pending c.loop-node.invariant.searched c.visit_node.ensures;
  within = (let w = c.loop-node.invariant.within in omega arith);
}
