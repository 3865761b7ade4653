use Rattle.loop_tree.proofs.ExtentLaws.{ranges_next}
use Rattle.loop_tree.proofs.natural.extent.extent_of.Goals as goal

pub loop-k-preserved : goal.loop-k-preserved
loop-k-preserved c = ranges_next c.args.graph.now c.args.note.now c.loop-k.k c.get-range.result.now
    (record { from = c.nodes_below.result; to = c.nodes_below-in-loop-k.result }) c.loop-k.extent.items c.push-in-loop-k.new.self.items c.in_ok-push-2.ensures.items
    c.get-range.ensures c.nodes_below.ensures c.nodes_below-in-loop-k.ensures c.loop-k.invariant
