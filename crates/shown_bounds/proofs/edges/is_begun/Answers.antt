use Rattle.std.proofs.Common.{ℕ, ◌<◌, refl, subst, sym}
use Rattle.std.proofs.lemmas.Option.{slice_get_within}
use Rattle.shown_bounds.proofs.edges.is_begun.Goals as goal

pub is_body-requires : goal.is_body-requires
is_body-requires c = subst (λ (n : ℕ). c.in-Some.k < n) (sym c.requires.entries.body) (slice_get_within c.args.case.now.claim.now.graph.now.code.nodes c.in-Some.k c.entry.result ((c.in-Some.ensures c.in-Some.k).0 refl))

pub is_quiet-requires : goal.is_quiet-requires
is_quiet-requires c = subst (λ (n : ℕ). c.args.case.now.header < n) (sym c.requires.entries.quiet) (slice_get_within c.args.case.now.claim.now.graph.now.code.nodes c.args.case.now.header c.args.case.now.note.now.header c.requires.header)

pub is_body-requires-2 : goal.is_body-requires-2
is_body-requires-2 c = subst (λ (n : ℕ). c.args.case.now.header < n) (sym c.requires.entries.body) (slice_get_within c.args.case.now.claim.now.graph.now.code.nodes c.args.case.now.header c.args.case.now.note.now.header c.requires.header)

pub offset-requires : goal.offset-requires
offset-requires c = subst (λ (n : ℕ). c.args.case.now.header < n) (sym c.requires.entries.offset) (slice_get_within c.args.case.now.claim.now.graph.now.code.nodes c.args.case.now.header c.args.case.now.note.now.header c.requires.header)
