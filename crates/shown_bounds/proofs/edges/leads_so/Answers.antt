use Rattle.std.proofs.Common.{refl}
use Rattle.shown_bounds.proofs.Cases.{led_so}
use Rattle.shown_bounds.proofs.edges.leads_so.Goals as goal

pub returns-in-Some : goal.returns-in-Some
returns-in-Some c so = led_so c.args.case.now c.requires.case c.args.e c.source-k.result c.in-Some.n c.source-k.ensures.node (c.in-Some.ensures.some c.in-Some.n refl) (c.is_led.ensures so)
