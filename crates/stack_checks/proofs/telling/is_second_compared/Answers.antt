use Rattle.std.proofs.Common.{◌∙◌, sym}
use Rattle.stack_laws.specs.Telling.IsCompared.{second}
use Rattle.stack_checks.proofs.telling.is_second_compared.Goals as goal

pub returns-in-Some : goal.returns-in-Some
returns-in-Some c so = second c.args.op c.in-Some.test c.args.other c.requires.instruction (sym c.reg_test.ensures ∙ c.in-Some.is) (c.is_told_by_second.ensures so)
