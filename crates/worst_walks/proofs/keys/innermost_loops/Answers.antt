use Rattle.std.proofs.Common.{ℕ, Option, None}
use Rattle.flow_graph.specs.FlowGraph.{graph as graph_seen}
use Rattle.loop_forest.specs.Tree.{loops, IsInnermost}
use Rattle.worst_walks.proofs.Passes.{placed, placed_size}
use Rattle.worst_walks.proofs.EnterLaws.{innermost_at}
use Rattle.worst_walks.proofs.keys.innermost_loops.Goals as goal

pub loop-e-preserved : goal.loop-e-preserved
loop-e-preserved c = rw c.in_ok-push.ensures.items (record {
  size = placed_size c.loop-e.keys.items c.innermost.result c.loop-e.e c.loop-e.invariant.size;
  each = placed (λ (d : ℕ) (x : Option ℕ). IsInnermost (loops c.args.graph.now c.args.tree.now) ((graph_seen c.args.graph.now).source d) x) None c.loop-e.keys.items c.innermost.result c.loop-e.e c.loop-e.invariant.size c.loop-e.invariant.each
      (innermost_at c.args.graph.now c.args.tree.now c.requires.tree.0 c.requires.tree.1 c.source.result ((graph_seen c.args.graph.now).source c.loop-e.e) c.innermost.result c.source.ensures.node c.innermost.ensures);
})
