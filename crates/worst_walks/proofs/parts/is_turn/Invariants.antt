use Rattle.std.proofs.Common.{Some}
use Rattle.flow_graph.specs.FlowGraph.{graph as graph_seen}
use Rattle.loop_forest.specs.Tree.{loops}
use Rattle.worst_walks.specs.Tallies.{place_of}
use Rattle.worst_walks.proofs.PartLaws.{IsWithinTo}
use Rattle.worst_walks.proofs.parts.is_turn.Given as goal

abbrev pub invariant-loop-j : goal.invariant-loop-j
invariant-loop-j s = IsWithinTo (graph_seen s.graph) (loops s.graph s.tree) s.l (Some ((loops s.graph s.tree).header s.l)) s.turn s.j (place_of s.graph s.at)
