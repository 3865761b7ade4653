use Rattle.std.proofs.Common.{refl}
use Rattle.stack_checks.proofs.Solvings.{solved_so}
use Rattle.stack_checks.proofs.solving.is_solved_through.Goals as goal

pub returns : goal.returns
returns c so = solved_so c.args.way.now c.args.r c.args.b.now c.requires.base (c.if-not-is_left.ensures refl) (c.if-not-is_known_behind.ensures refl) (c.is_some_solved.ensures so)
