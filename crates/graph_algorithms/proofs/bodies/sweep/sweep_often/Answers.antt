use Rattle.graph_algorithms.proofs.SweepLaws.{searched_same, searched_then}
use Rattle.graph_algorithms.proofs.bodies.sweep.sweep_often.Goals as goal

pub loop-init : goal.loop-init
loop-init c = searched_same c.args.edges.now c.args.inside.now c.args.found.now c.args.pending.now c.requires.settled

pub loop-preserved : goal.loop-preserved
loop-preserved c = searched_then c.args.edges.now c.args.inside.now c.args.found.now c.loop.found c.sweep.new.found c.loop.pending c.sweep.new.pending c.loop.invariant c.sweep.ensures
