use Rattle.std.proofs.Common.{refl}
use Rattle.std.proofs.lemmas.Option.{slice_get_within}
use Rattle.walk_checks.proofs.shown.is_entry_so.Goals as goal

pub is_entry_at-requires-clause-node : goal.is_entry_at-requires-clause-node
is_entry_at-requires-clause-node c = slice_get_within c.args.case.now.claim.now.graph.now.code.nodes c.in-Some.k c.entry.result ((c.in-Some.ensures c.in-Some.k).0 refl)
