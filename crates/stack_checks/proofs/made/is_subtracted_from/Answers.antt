use Rattle.std.proofs.Common.{refl}
use Rattle.stack_checks.proofs.made.is_subtracted_from.Goals as goal

pub returns : goal.returns
returns c so = record { first = c.args.first; second = c.args.second; subtracts = c.requires.subtracts; word = c.if-not-is_held.ensures refl; covers = c.is_difference_by.ensures so }
