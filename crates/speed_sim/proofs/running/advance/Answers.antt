use Rattle.std.proofs.Common.{◌∙◌, sym, ap}
use Rattle.std.specs.Prelude.{option_copied}
use Rattle.rv_machine.proofs.Laws.{known_fixed}
use Rattle.speed_sim.proofs.AdvanceLaws.{advanced, port_of}
use Rattle.speed_sim.proofs.running.advance.Goals as goal

pub pay_known-requires-clause-known : goal.pay_known-requires-clause-known
pay_known-requires-clause-known g c =
    known_fixed (g.M.Memory.layout c.args.machine.now.memory) (g.M.Memory.bytes c.args.machine.now.memory) c.args.code.now c.args.machine.now.pc c.in-Some.known.now
    c.requires.code (sym c.instr.ensures ∙ ap option_copied c.in-Some.is)

pub returns-in-Some-clause-advance : goal.returns-in-Some-clause-advance
returns-in-Some-clause-advance g c =
    advanced _ _ _ _ c.pay_known.result _ _ _ _ _ c.pay_known.ensures.outcome c.pay_known.ensures.paid c.seen.ensures.watched c.seen.ensures.ended

pub returns-in-Some-clause-port : goal.returns-in-Some-clause-port
returns-in-Some-clause-port g c = port_of _ _ c.pay_known.result _ c.pay_known.ensures.outcome c.pay_known.ensures.port
