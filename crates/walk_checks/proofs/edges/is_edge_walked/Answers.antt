use Rattle.std.proofs.Common.{◌∙◌, refl}
use Rattle.std.proofs.lemmas.Bool.{both_ways, not-true}
use Rattle.walk_checks.proofs.Cases.{edge_so}
use Rattle.walk_checks.proofs.edges.is_edge_walked.Goals as goal

pub returns-then-not-is_live : goal.returns-then-not-is_live
returns-then-not-is_live c so = edge_so c.args.case.now c.args.e c.source-k.result c.source-k.ensures.node (c.if-not-is_quiet_along.ensures refl) (c.if-not-is_quiet_called.ensures refl)
    (λ live. absurd (both_ways c.is_live.result (not-true c.is_live.result so) (c.is_live.ensures ∙ live)))

pub returns-else-not-is_live : goal.returns-else-not-is_live
returns-else-not-is_live c so = edge_so c.args.case.now c.args.e c.source-k.result c.source-k.ensures.node (c.if-not-is_quiet_along.ensures refl) (c.if-not-is_quiet_called.ensures refl) (λ live. c.is_live_so.ensures so)
