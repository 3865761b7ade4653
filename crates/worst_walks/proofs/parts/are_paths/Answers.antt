use Rattle.std.proofs.Common.{◌<◌, ℕ, List, Option, Some, length, sym, subst, ◌∙◌, arith}
use Rattle.cost_theory.specs.Graph.{IsPlainPath}
use Rattle.cost_theory.specs.Lists.{body_of}
use Rattle.graph_algorithms.specs.Nesting.{bodies_of}
use Rattle.flow_graph.specs.FlowGraph.{graph as graph_seen}
use Rattle.loop_forest.specs.Tree.{loops}
use Rattle.worst_walks.proofs.Passes.{list_of, next_below}
use Rattle.worst_walks.proofs.parts.are_paths.Goals as goal

pub loop-f-preserved : goal.loop-f-preserved
loop-f-preserved c =
    let low : c.loop-f.f < length c.args.paths.now = omega arith in
    next_below (λ f. IsPlainPath (graph_seen c.args.graph.now) (loops c.args.graph.now c.args.tree.now) (Some ((graph_seen c.args.graph.now).entry f)) (body_of (bodies_of c.args.paths.now) f)) c.loop-f.f c.loop-f.invariant
    (subst (λ (es : List ℕ). IsPlainPath (graph_seen c.args.graph.now) (loops c.args.graph.now c.args.tree.now) (Some ((graph_seen c.args.graph.now).entry c.loop-f.f)) es)
    (c.deref.ensures.value ∙ sym (list_of c.args.paths.now c.loop-f.f c.index-paths-f.result low c.index-paths-f.is))
    (subst (λ (p : Option ℕ). IsPlainPath (graph_seen c.args.graph.now) (loops c.args.graph.now c.args.tree.now) p c.deref.result.now) c.entry_node.ensures.node (c.is_path.ensures c.if-not-is_path.false)))
