use Rattle.std.proofs.Common.{ℕ, ◌<◌, refl, subst, sym}
use Rattle.std.proofs.lemmas.Option.{slice_get_within}
use Rattle.copy_checks.proofs.copies.is_started.Goals as goal

pub is_body-requires : goal.is_body-requires
is_body-requires c = subst (λ (n : ℕ). c.in-Some.k < n) (sym c.requires.entries.body) (slice_get_within c.args.case.now.graph.now.code.nodes c.in-Some.k c.args.entry ((c.in-Some.ensures c.in-Some.k).0 refl))
