use Rattle.std.proofs.Common.{ℕ, ◌<◌, Some}
use Rattle.cost_theory.specs.Graph.{IsPlainPath}
use Rattle.cost_theory.specs.Lists.{body_of}
use Rattle.graph_algorithms.specs.Nesting.{bodies_of}
use Rattle.flow_graph.specs.FlowGraph.{graph as graph_seen}
use Rattle.loop_forest.specs.Tree.{loops}
use Rattle.worst_walks.proofs.parts.are_paths.Given as goal

abbrev pub invariant-loop-f : goal.invariant-loop-f
invariant-loop-f l = (f : ℕ) → f < l.f → IsPlainPath (graph_seen l.graph) (loops l.graph l.tree) (Some ((graph_seen l.graph).entry f)) (body_of (bodies_of l.paths) f)
