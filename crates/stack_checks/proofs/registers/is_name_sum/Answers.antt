use Rattle.std.proofs.Common.{refl}
use Rattle.stack_laws.specs.Stacks.IsNamedOver.{added as added_over, added_to as added_to_over}
use Rattle.stack_checks.proofs.registers.is_name_sum.Goals as goal

pub returns-then-is_name_exact : goal.returns-then-is_name_exact
returns-then-is_name_exact c so = let e = c.if-is_name_exact.ensures refl in added_over c.args.rs1 c.args.rs2 e.0 c.requires.sum e.1 e.2

pub returns : goal.returns
returns c so = let e = c.is_name_exact-2.ensures so in added_to_over c.args.rs1 c.args.rs2 e.0 c.requires.sum e.1 e.2
