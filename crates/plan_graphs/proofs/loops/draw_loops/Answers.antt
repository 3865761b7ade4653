use Rattle.std.proofs.Common.{List, sym, subst}
use Rattle.plan_graphs.specs.declared.plan.DrawnLoop.{DrawnLoop}
use Rattle.plan_graphs.specs.Drawn.{AreDrawn, IsLoopDrawn}
use Rattle.plan_graphs.proofs.Listing.{drawn_none, drawn_more}
use Rattle.plan_graphs.proofs.loops.draw_loops.Goals as goal

pub loop-l-init : goal.loop-l-init
loop-l-init c = λ told holds. subst (λ (xs : List DrawnLoop). AreDrawn (IsLoopDrawn c.args.sketch.now.graph.now c.args.sketch.now.tree.now told) 0 xs) (sym c.new-loops.ensures.items) (drawn_none (IsLoopDrawn c.args.sketch.now.graph.now c.args.sketch.now.tree.now told))

pub loop-l-preserved : goal.loop-l-preserved
loop-l-preserved c = λ told holds. drawn_more (IsLoopDrawn c.args.sketch.now.graph.now c.args.sketch.now.tree.now told) c.loop-l.l c.loop-l.loops.items c.push.new.self.items c.in_ok-draw_loop.field-0
    c.in_ok-push.ensures.items (c.loop-l.invariant told holds) (c.in_ok-draw_loop.ensures told holds)
