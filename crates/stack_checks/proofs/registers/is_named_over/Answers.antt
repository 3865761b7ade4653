use Rattle.std.proofs.Common.{refl}
use Rattle.stack_laws.specs.Stacks.IsNamedOver.{unnamed as none_over}
use Rattle.stack_checks.proofs.registers.is_named_over.Goals as goal

pub returns-then-is_named : goal.returns-then-is_named
returns-then-is_named c so = none_over (c.if-is_named.ensures refl)
