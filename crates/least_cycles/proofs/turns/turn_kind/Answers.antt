use Rattle.std.proofs.Common.{◌∙◌}
use Rattle.std.proofs.lemmas.Option.{get_or_from_slice_get}
use Rattle.least_cycles.proofs.PriceLaws.{led_to}
use Rattle.least_cycles.proofs.TurnLaws.{turn_off, stay_off}
use Rattle.least_cycles.proofs.turns.turn_kind.Goals as goal

pub returns-else-k-header-clause-turn : goal.returns-else-k-header-clause-turn
returns-else-k-header-clause-turn c =
    let body = c.args.body.now in
    let kl = c.target.ensures.within c.in-Some.k c.in-Some.is in
    turn_off body c.args.e c.requires.body c.requires.from c.in-Some.k kl (led_to body.graph.now c.args.e c.in-Some.k (c.target.ensures.some c.in-Some.k c.in-Some.is) kl)
    (λ same. c.if-k-header.false (same ∙ get_or_from_slice_get body.tree.now.headers body.number c.header.result 0 c.header.ensures))

pub returns-else-k-header-clause-stay : goal.returns-else-k-header-clause-stay
returns-else-k-header-clause-stay c =
    let body = c.args.body.now in
    let kl = c.target.ensures.within c.in-Some.k c.in-Some.is in
    stay_off body c.args.e c.requires.body c.requires.from c.in-Some.k kl (led_to body.graph.now c.args.e c.in-Some.k (c.target.ensures.some c.in-Some.k c.in-Some.is) kl)
    (λ same. c.if-k-header.false (same ∙ get_or_from_slice_get body.tree.now.headers body.number c.header.result 0 c.header.ensures)) c.is_in.result c.is_in.ensures
