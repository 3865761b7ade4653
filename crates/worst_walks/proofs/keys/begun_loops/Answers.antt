use Rattle.std.proofs.Common.{ℕ, Option, None}
use Rattle.flow_graph.specs.FlowGraph.{graph as graph_seen}
use Rattle.loop_forest.specs.Tree.{loops, IsInnermost}
use Rattle.worst_walks.proofs.Passes.{placed, placed_size}
use Rattle.worst_walks.proofs.EnterLaws.{innermost_at}
use Rattle.worst_walks.proofs.keys.begun_loops.Goals as goal

pub loop-f-preserved : goal.loop-f-preserved
loop-f-preserved c = rw c.in_ok-push.ensures.items (record {
  size = placed_size c.loop-f.keys.items c.innermost.result c.loop-f.f c.loop-f.invariant.size;
  each = placed (λ (d : ℕ) (x : Option ℕ). IsInnermost (loops c.args.graph.now c.args.tree.now) ((graph_seen c.args.graph.now).entry d) x) None c.loop-f.keys.items c.innermost.result c.loop-f.f c.loop-f.invariant.size c.loop-f.invariant.each
      (innermost_at c.args.graph.now c.args.tree.now c.requires.tree.0 c.requires.tree.1 c.entry_node.result ((graph_seen c.args.graph.now).entry c.loop-f.f) c.innermost.result c.entry_node.ensures.node c.innermost.ensures);
})
