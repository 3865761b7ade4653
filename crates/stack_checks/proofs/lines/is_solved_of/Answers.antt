use Rattle.std.proofs.Common.{refl}
use Rattle.stack_checks.proofs.lines.is_solved_of.Goals as goal

pub returns-in-Some : goal.returns-in-Some
returns-in-Some c so = (c.args.j, c.in-Some.adds, c.if-not-is_of.ensures.register refl, c.if-not-is_of.ensures.factor refl, c.in-Some.ensures, c.if-not-is_known_behind.ensures refl, c.is_solved_by.ensures so)
