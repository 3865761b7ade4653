use Rattle.std.proofs.Common.{ℕ, Option, Some, None, refl}
use Rattle.worst_walks.specs.Whole.{IsSourceKey}
use Rattle.worst_walks.proofs.Passes.{placed, placed_size}
use Rattle.worst_walks.proofs.whole.source_nodes.Goals as goal

pub loop-e-preserved : goal.loop-e-preserved
loop-e-preserved c = rw c.in_ok-push.ensures.items (record {
  size = placed_size c.loop-e.nodes.items (Some c.source.result) c.loop-e.e c.loop-e.invariant.size;
  each = placed (λ (d : ℕ) (x : Option ℕ). IsSourceKey c.args.graph.now d x) None c.loop-e.nodes.items (Some c.source.result) c.loop-e.e c.loop-e.invariant.size c.loop-e.invariant.each
      (c.source.result, refl, c.source.ensures.node);
})
