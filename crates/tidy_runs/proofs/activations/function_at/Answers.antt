use Rattle.std.proofs.Common.{◌∙◌, ℕ, ap, sym}
use Rattle.std.proofs.lemmas.Option.{get_or_from_slice_get, slice_get_within}
use Rattle.cost_theory.specs.Reached.{number_beside}
use Rattle.tidy_runs.proofs.Reading.{no_number}
use Rattle.tidy_runs.proofs.activations.function_at.Goals as goal

pub owner-requires : goal.owner-requires
owner-requires c = slice_get_within _ _ _ ((c.find.ensures c.in-Some.k).0 c.in-Some.is)

pub returns-in-Some : goal.returns-in-Some
returns-in-Some c =
    let code = c.args.claim.now.graph.now.code in
    c.owner.ensures.owner ∙ ap (λ (a : ℕ). number_beside code.nodes code.owners a) (get_or_from_slice_get code.nodes c.in-Some.k c.args.at 0 ((c.find.ensures c.in-Some.k).0 c.in-Some.is))

pub returns-in-None : goal.returns-in-None
returns-in-None c =
    let code = c.args.claim.now.graph.now.code in
    sym (no_number code.nodes code.owners c.args.at (λ k there. let same = (c.find.ensures k).1 there in let none = c.in-None.is in let bad : ⊥ = cc in bad))
