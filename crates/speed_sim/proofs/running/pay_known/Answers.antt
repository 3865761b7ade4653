use Rattle.std.proofs.Common.{sym, subst, length}
use Rattle.scale_base.specs.Step.{PortBelow}
use Rattle.scale_base.specs.declared.stepping.StepEnd.{StepEnd}
use Rattle.speed_sim.proofs.TallyLaws.{port_below}
use Rattle.speed_sim.proofs.running.pay_known.Goals as goal

pub add_effect-requires-clause-to_level : goal.add_effect-requires-clause-to_level
add_effect-requires-clause-to_level g c =
    port_below c.args.known.now c.args.machine.now.pc c.step_decoded-effect.result c.step_decoded-effect.new.machine.pc (length c.args.prices.now.power.now.levels)
    (rw c.requires.levels at c.step_decoded-effect.ensures.level)

pub returns-clause-port : goal.returns-clause-port
returns-clause-port g c =
    subst (λ (end : StepEnd). PortBelow end c.args.machine.now.levels) (sym c.end.ensures)
    (port_below c.args.known.now c.args.machine.now.pc c.step_decoded-effect.result c.step_decoded-effect.new.machine.pc c.args.machine.now.levels c.step_decoded-effect.ensures.level)
