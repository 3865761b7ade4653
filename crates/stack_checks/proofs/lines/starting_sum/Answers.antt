use Rattle.scale_base.specs.State.{reg}
use Rattle.bound_laws.specs.Laws.{starting_registers}
use Rattle.stack_checks.proofs.RowLines.{sum_is}
use Rattle.stack_checks.proofs.lines.starting_sum.Goals as goal

pub returns : goal.returns
returns c = sum_is c.args.m.shift c.args.m.factor c.args.m.other_factor c.starting_register.result c.starting_register-2.result (reg starting_registers c.args.m.register) (reg starting_registers c.args.m.other) c.starting_register.ensures c.starting_register-2.ensures
