use Rattle.std.proofs.Common.{List, sym, subst}
use Rattle.plan_graphs.specs.declared.plan.DrawnFunction.{DrawnFunction}
use Rattle.plan_graphs.specs.Drawn.{AreDrawn, IsFunctionDrawn}
use Rattle.plan_graphs.proofs.Listing.{drawn_none, drawn_more}
use Rattle.plan_graphs.proofs.functions.draw_functions.Goals as goal

pub loop-f-init : goal.loop-f-init
loop-f-init c = λ told holds. subst (λ (xs : List DrawnFunction). AreDrawn (IsFunctionDrawn c.args.sketch.now.graph.now told) 0 xs) (sym c.new-functions.ensures.items) (drawn_none (IsFunctionDrawn c.args.sketch.now.graph.now told))

pub loop-f-preserved : goal.loop-f-preserved
loop-f-preserved c = λ told holds. drawn_more (IsFunctionDrawn c.args.sketch.now.graph.now told) c.loop-f.f c.loop-f.functions.items c.push.new.self.items c.in_ok-draw_function.field-0
    c.in_ok-push.ensures.items (c.loop-f.invariant told holds) (c.in_ok-draw_function.ensures told holds)
