use Rattle.std.proofs.Common.{refl}
use Rattle.stack_checks.proofs.telling.is_handed_on.Goals as goal

pub returns : goal.returns
returns c so = record { handed = c.if-not-is_handed.ensures refl; carried = c.is_carried.ensures so }
