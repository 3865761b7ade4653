use Rattle.std.proofs.Common.{refl}
use Rattle.shown_bounds.proofs.Cases.{quiet_along}
use Rattle.shown_bounds.proofs.edges.is_quiet_along.Goals as goal

pub returns-in-Some : goal.returns-in-Some
returns-in-Some c so = quiet_along c.args.case.now c.requires.case c.args.e c.source-k.result c.in-Some.n c.source-k.ensures.node (c.in-Some.ensures.some c.in-Some.n refl) (c.is_quiet_on.ensures so)
