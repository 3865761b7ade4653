use Rattle.std.proofs.Common.{◌<◌, ℕ, List, Some, length, sym, subst, ◌∙◌, arith}
use Rattle.cost_theory.specs.Graph.{IsClosing}
use Rattle.cost_theory.specs.Lists.{body_of}
use Rattle.graph_algorithms.specs.Nesting.{bodies_of}
use Rattle.flow_graph.specs.FlowGraph.{graph as graph_seen}
use Rattle.loop_forest.specs.Tree.{loops}
use Rattle.worst_walks.proofs.Passes.{list_of, next_below}
use Rattle.worst_walks.proofs.parts.are_turns.Goals as goal

pub loop-l-preserved : goal.loop-l-preserved
loop-l-preserved c =
    let low : c.loop-l.l < length c.args.turns.now = omega arith in
    next_below (λ k. IsClosing (graph_seen c.args.graph.now) (loops c.args.graph.now c.args.tree.now) k (Some ((loops c.args.graph.now c.args.tree.now).header k)) (body_of (bodies_of c.args.turns.now) k)) c.loop-l.l c.loop-l.invariant
    (subst (λ (es : List ℕ). IsClosing (graph_seen c.args.graph.now) (loops c.args.graph.now c.args.tree.now) c.loop-l.l (Some ((loops c.args.graph.now c.args.tree.now).header c.loop-l.l)) es)
    (c.deref.ensures.value ∙ sym (list_of c.args.turns.now c.loop-l.l c.index-turns-l.result low c.index-turns-l.is))
    (c.is_turn.ensures c.if-not-is_turn.false))
