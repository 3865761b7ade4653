use Rattle.std.proofs.Common.{◌∙◌, refl, sym}
use Rattle.copy_checks.proofs.kept.is_edge_kept.Goals as goal

pub returns-in-Some : goal.returns-in-Some
returns-in-Some c so b to = (c.source.result, c.in-Some.n, c.source.ensures.node, sym (c.in-Some.ensures.some c.in-Some.n refl) ∙ to, c.is_kept.ensures so)
