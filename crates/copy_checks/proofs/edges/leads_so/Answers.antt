use Rattle.std.proofs.Common.{◌∙◌, refl, sym}
use Rattle.copy_checks.proofs.edges.leads_so.Goals as goal

pub returns-in-Some : goal.returns-in-Some
returns-in-Some c so b to = (c.source-k.result, c.in-Some.n, c.source-k.ensures.node, sym (c.in-Some.ensures.some c.in-Some.n refl) ∙ to, c.is_led.ensures so)
