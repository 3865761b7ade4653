use Rattle.std.proofs.Common.{refl}
use Rattle.jump_checks.proofs.Along.{back_read, no_back}
use Rattle.jump_checks.proofs.edges.is_back_read.Goals as goal

pub returns-in-Some : goal.returns-in-Some
returns-in-Some c so = back_read c.args.claim.now c.args.e c.in-Some.n (c.in-Some.ensures.some c.in-Some.n refl) (c.is_nothing.ensures so)

pub returns-in-None : goal.returns-in-None
returns-in-None c so = no_back c.args.claim.now c.args.e (c.in-None.ensures.none refl)
