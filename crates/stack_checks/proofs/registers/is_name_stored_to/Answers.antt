use Rattle.std.proofs.Common.{refl}
use Rattle.stack_laws.specs.Stacks.IsNamedOver.{stored as stored_over}
use Rattle.stack_checks.proofs.registers.is_name_stored_to.Goals as goal

pub returns : goal.returns
returns c so = stored_over c.args.number c.requires.stored (c.if-not-is_known.ensures refl) (c.is_named.ensures so)
