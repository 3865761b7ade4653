use Rattle.std.proofs.Common.{◌∙◌, refl, sym, subst, None}
use Rattle.rv_machine.specs.declared.decoded.Effect.{Effect}
use Rattle.rv_machine.specs.Decoded.{decoded_step, decoded_end}
use Rattle.speed_sim.specs.Tallied.{tallied, IsPaid}
use Rattle.speed_sim.proofs.tally.Tally.add_effect.Goals as goal

pub returns-in-Went : goal.returns-in-Went
returns-in-Went c =
    let known = c.args.known.now in
    let power = c.args.prices.now.power.now in
    let done = c.args.done.now in
    subst (λ (effect : Effect). IsPaid power (decoded_end known done.pc effect done.next) (tallied power c.args.self.now) (tallied power c.add.new.self))
    (sym c.in-Went.is)
    (c.add.ensures power (decoded_step known done.pc known.untaken None done.next) refl (c.of.ensures ∙ c.requires.costs known.untaken) refl)

pub returns-in-Branched : goal.returns-in-Branched
returns-in-Branched c =
    let known = c.args.known.now in
    let power = c.args.prices.now.power.now in
    let done = c.args.done.now in
    subst (λ (effect : Effect). IsPaid power (decoded_end known done.pc effect done.next) (tallied power c.args.self.now) (tallied power c.add-in-Branched.new.self))
    (sym c.in-Branched.is)
    (c.add-in-Branched.ensures power (decoded_step known done.pc known.taken None done.next) refl (c.of-in-Branched.ensures ∙ c.requires.costs known.taken) refl)
