use Rattle.std.proofs.Common.{refl}
use Rattle.stack_checks.proofs.Confirmed.{edge_so}
use Rattle.stack_checks.proofs.edges.is_edge_checked.Goals as goal

pub returns : goal.returns
returns c so = edge_so c.args.claim.now c.args.e c.source-k.result c.source-k.ensures.node (c.if-not-is_spared_along.ensures refl) (c.is_sound_or_dead.ensures so)
