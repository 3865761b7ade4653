use Rattle.std.proofs.Common.{refl}
use Rattle.stack_laws.specs.Stacks.IsSpannedOver.{added as added_by, added_to as added_to_by}
use Rattle.stack_checks.proofs.registers.is_span_sum.Goals as goal

pub returns-then-is_span_adding : goal.returns-then-is_span_adding
returns-then-is_span_adding c so = added_by c.args.rs1 c.args.rs2 c.requires.sum (c.if-is_span_adding.ensures refl)

pub returns : goal.returns
returns c so = added_to_by c.args.rs1 c.args.rs2 c.requires.sum (c.is_span_adding-2.ensures so)
