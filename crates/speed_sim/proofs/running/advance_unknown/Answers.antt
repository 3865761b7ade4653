use Rattle.speed_sim.proofs.AdvanceLaws.{advanced, port_of}
use Rattle.speed_sim.proofs.running.advance_unknown.Goals as goal

pub returns-clause-advance : goal.returns-clause-advance
returns-clause-advance g c =
    advanced _ _ _ _ c.pay_step-end.result _ _ _ _ _ c.pay_step-end.ensures.outcome c.pay_step-end.ensures.paid c.seen.ensures.watched c.seen.ensures.ended

pub returns-clause-port : goal.returns-clause-port
returns-clause-port g c = port_of _ _ c.pay_step-end.result _ c.pay_step-end.ensures.outcome c.pay_step-end.ensures.port
