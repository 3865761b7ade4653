use Rattle.std.proofs.Common.{◌≡◌, Some, None, sym, ◌∙◌}
use Rattle.least_cycles.proofs.PriceLaws.{led_to}
use Rattle.least_cycles.proofs.TurnLaws.{no_head_entered, back_entered, head_entered}
use Rattle.least_cycles.proofs.charges.entered.Goals as goal

pub returns-in_default-heads : goal.returns-in_default-heads
returns-in_default-heads c =
    let v = c.args.graph.now in
    let kl = c.target.ensures.within c.in-Some.k c.in-Some.is in
    no_head_entered v c.args.tree.now c.requires.tree.0 c.args.heads.now c.args.e c.in-Some.k c.requires.flow c.requires.tree.1 c.requires.heads kl (led_to v c.args.e c.in-Some.k (c.target.ensures.some c.in-Some.k c.in-Some.is) kl) c.in_default-heads.is

pub returns-in-Some-back_loop : goal.returns-in-Some-back_loop
returns-in-Some-back_loop c = back_entered c.args.graph.now c.args.tree.now c.requires.tree.0 c.args.e c.in-Some-back_loop.field-0 c.requires.flow c.requires.tree.1 c.in-Some-back_loop.ensures

pub returns-in-None : goal.returns-in-None
returns-in-None c =
    let v = c.args.graph.now in
    let kl = c.target.ensures.within c.in-Some.k c.in-Some.is in
    head_entered v c.args.tree.now c.requires.tree.0 c.args.heads.now c.args.e c.in-Some.k c.in-Some-heads.l c.requires.flow c.requires.tree.1 c.requires.heads kl c.requires.edge (led_to v c.args.e c.in-Some.k (c.target.ensures.some c.in-Some.k c.in-Some.is) kl) c.in-Some-heads.is
    (λ back. let clash : Some None ≡ Some (Some c.in-Some-heads.l) = sym c.in-None.ensures ∙ back in let bad : ⊥ = cc in bad)
