use Rattle.std.proofs.Common.{refl}
use Rattle.std.proofs.lemmas.Option.{slice_get_within}
use Rattle.jump_checks.proofs.Along.{start_clear}
use Rattle.jump_checks.proofs.edges.is_start_clear.Goals as goal

pub is_nothing-requires-clause-node : goal.is_nothing-requires-clause-node
is_nothing-requires-clause-node c = slice_get_within c.args.claim.now.claim.now.graph.now.code.nodes c.in-Some.k c.entry.result ((c.in-Some.ensures c.in-Some.k).0 refl)

pub returns-in-Some : goal.returns-in-Some
returns-in-Some c so = start_clear c.args.claim.now c.in-Some.k c.entry.result c.args.claim.now.claim.now.view.now.entry ((c.in-Some.ensures c.in-Some.k).0 refl) c.entry.ensures (c.is_nothing.ensures so)
