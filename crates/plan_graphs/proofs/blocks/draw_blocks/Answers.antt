use Rattle.std.proofs.Common.{List, sym, subst}
use Rattle.plan_graphs.specs.declared.plan.DrawnBlock.{DrawnBlock}
use Rattle.plan_graphs.specs.Drawn.{AreDrawn, IsBlockDrawn}
use Rattle.plan_graphs.proofs.Listing.{drawn_none, drawn_more}
use Rattle.plan_graphs.proofs.blocks.draw_blocks.Goals as goal

pub loop-b-init : goal.loop-b-init
loop-b-init c = λ told holds. subst (λ (xs : List DrawnBlock). AreDrawn (IsBlockDrawn c.args.sketch.now.graph.now c.args.sketch.now.tree.now told) 0 xs) (sym c.new-blocks.ensures.items) (drawn_none (IsBlockDrawn c.args.sketch.now.graph.now c.args.sketch.now.tree.now told))

pub loop-b-preserved : goal.loop-b-preserved
loop-b-preserved c = λ told holds. drawn_more (IsBlockDrawn c.args.sketch.now.graph.now c.args.sketch.now.tree.now told) c.loop-b.b c.loop-b.blocks.items c.push.new.self.items c.in_ok-draw_block.field-0
    c.in_ok-push.ensures.items (c.loop-b.invariant told holds) (c.in_ok-draw_block.ensures told holds)
