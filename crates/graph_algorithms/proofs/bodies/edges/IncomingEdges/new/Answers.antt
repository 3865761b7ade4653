use Rattle.graph_algorithms.proofs.EdgeLaws.{edges_keys}
use Rattle.graph_algorithms.proofs.bodies.edges.IncomingEdges.new.Goals as goal

pub find_chains-requires : goal.find_chains-requires
find_chains-requires c = edges_keys c.args.sources.now c.args.targets.now c.args.count c.requires
