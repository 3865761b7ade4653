use Rattle.std.proofs.Common.{refl}
use Rattle.jump_checks.proofs.Along.{no_step, step_read}
use Rattle.jump_checks.proofs.edges.is_step_read.Goals as goal

pub returns-in-Some : goal.returns-in-Some
returns-in-Some c so = step_read c.args.claim.now c.args.e c.source-k.result c.in-Some.n c.source-k.ensures.node (c.in-Some.ensures.some c.in-Some.n refl) (c.is_known_over.ensures so)

pub returns-in-None : goal.returns-in-None
returns-in-None c so = no_step c.args.claim.now c.args.e (c.in-None.ensures.none refl)
