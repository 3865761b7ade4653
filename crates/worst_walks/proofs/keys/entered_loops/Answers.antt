use Rattle.std.proofs.Common.{◌≡◌, ℕ, ◌<◌, ◌↔◌, Option, None, Some, length, true, arith}
use Rattle.cost_theory.specs.Graph.{enters}
use Rattle.flow_graph.specs.FlowGraph.{graph as graph_seen}
use Rattle.loop_forest.specs.Tree.{loops}
use Rattle.worst_walks.proofs.Passes.{placed, placed_size}
use Rattle.worst_walks.proofs.keys.entered_loops.Goals as goal

pub loop-e-preserved : goal.loop-e-preserved
loop-e-preserved c = rw c.in_ok-push.ensures.items (record {
  size = placed_size c.loop-e.keys.items c.entered_loop.result c.loop-e.e c.loop-e.invariant.size;
  each = placed (λ (d : ℕ) (x : Option ℕ). (k : ℕ) → (x ≡ Some k) ↔ ((k < length c.args.tree.now.headers) × (enters (loops c.args.graph.now c.args.tree.now) k ((graph_seen c.args.graph.now).source d) ((graph_seen c.args.graph.now).target d) ≡ true))) None c.loop-e.keys.items c.entered_loop.result c.loop-e.e c.loop-e.invariant.size c.loop-e.invariant.each
      c.entered_loop.ensures;
})

pub returns-clause-each : goal.returns-clause-each
returns-clause-each c = λ e lt. c.loop-e.invariant.each e (omega arith)
