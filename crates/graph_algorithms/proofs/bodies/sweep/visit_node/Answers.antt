use Rattle.std.proofs.Common.{refl}
use Rattle.graph_algorithms.proofs.SweepLaws.{searched_visit, searched_same}
use Rattle.graph_algorithms.proofs.bodies.sweep.visit_node.Goals as goal

pub returns-then-pending-node : goal.returns-then-pending-node
returns-then-pending-node c = searched_visit c.args.edges.now c.args.inside.now c.args.node _ c.args.found.now c.pass_back.new.found c.args.pending.now c.pass_back.new.pending refl c.requires.settled
    c.pass_back.ensures.gains c.pass_back.ensures.all

pub returns-else-pending-node : goal.returns-else-pending-node
returns-else-pending-node c = searched_same c.args.edges.now c.args.inside.now c.args.found.now c.args.pending.now c.requires.settled
