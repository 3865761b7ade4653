use Rattle.std.proofs.Common.{◌≡◌, ◌∙◌, sym, ap}
use Rattle.rv_machine.specs.Machine.{state_of, machine_setting, outcome_of}
use Rattle.rv_machine.proofs.CodeLaws.{step_fixed, told_end}
use Rattle.rv_machine.proofs.stepping.step_decoded.Goals as goal

pub returns-clause-outcome : goal.returns-clause-outcome
returns-clause-outcome g c =
    let env = machine_setting g.M.Memory.layout c.args.machine.now in
    let first = state_of g.M.Memory.bytes c.args.machine.now in
    ap (λ end. outcome_of g.M.Memory.bytes end c.perform.new.machine) (told_end env first c.args.known.now c.perform.result c.perform.new.machine.pc c.requires.tells)
    ∙ (c.perform.ensures.outcome ∙ sym (step_fixed env first c.args.known.now c.requires))
