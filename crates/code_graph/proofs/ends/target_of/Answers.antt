use Rattle.std.proofs.Common.{sym, ◌∙◌}
use Rattle.std.proofs.lemmas.Option.{slice_get_within}
use Rattle.code_graph.proofs.ends.target_of.Goals as goal

pub returns-in-Some-clause-some : goal.returns-in-Some-clause-some
returns-in-Some-clause-some c = λ k e. sym c.in-Some.ensures ∙ sym ((c.number_of.ensures k).0 e)

pub returns-in-Some-clause-within : goal.returns-in-Some-clause-within
returns-in-Some-clause-within c = λ k e. slice_get_within c.args.nodes.now k _ ((c.number_of.ensures k).0 e)

pub returns-in-Some-clause-none : goal.returns-in-Some-clause-none
returns-in-Some-clause-none c = λ none.
    let node = c.requires.node c.in-Some.at (sym c.in-Some.ensures) in
    let found = (c.number_of.ensures node.0).1 node.1 in
    let bad : ⊥ = cc in
    absurd bad
