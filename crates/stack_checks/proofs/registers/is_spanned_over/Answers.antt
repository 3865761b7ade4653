use Rattle.std.proofs.Common.{refl}
use Rattle.stack_laws.specs.Stacks.IsSpannedOver.{by_name as named_over, by_interval}
use Rattle.stack_checks.proofs.registers.is_spanned_over.Goals as goal

pub returns-then-is_spanned_by_name : goal.returns-then-is_spanned_by_name
returns-then-is_spanned_by_name c so = named_over (c.if-is_spanned_by_name.ensures refl)

pub returns : goal.returns
returns c so = by_interval (c.is_span_by_interval.ensures so)
