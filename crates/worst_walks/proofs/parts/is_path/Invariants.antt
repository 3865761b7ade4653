use Rattle.std.proofs.Common.{Some}
use Rattle.flow_graph.specs.FlowGraph.{graph as graph_seen}
use Rattle.loop_forest.specs.Tree.{loops}
use Rattle.worst_walks.specs.Tallies.{place_of}
use Rattle.worst_walks.proofs.PartLaws.{IsPathTo}
use Rattle.worst_walks.proofs.parts.is_path.Given as goal

abbrev pub invariant-loop-e : goal.invariant-loop-e
invariant-loop-e l = IsPathTo (graph_seen l.graph) (loops l.graph l.tree) (place_of l.graph (Some l.start)) l.path l.e-index (place_of l.graph l.at)
