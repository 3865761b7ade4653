use Rattle.std.proofs.Common.{refl}
use Rattle.stack_checks.proofs.registers.is_register_passed.Goals as goal

pub returns : goal.returns
returns c so = record { covered = c.if-not-is_covered_over.ensures refl; named = c.if-not-is_named_over.ensures refl; spanned = c.is_spanned_over.ensures so }
