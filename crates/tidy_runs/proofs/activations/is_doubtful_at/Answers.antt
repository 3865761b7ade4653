use Rattle.std.proofs.lemmas.Option.{slice_get_within}
use Rattle.tidy_runs.proofs.Reading.{no_flag, doubtful_there}
use Rattle.tidy_runs.proofs.activations.is_doubtful_at.Goals as goal

pub is_doubtful-requires-clause-node : goal.is_doubtful-requires-clause-node
is_doubtful-requires-clause-node c = slice_get_within _ _ _ ((c.find.ensures c.in-Some.k).0 c.in-Some.is)

pub returns-in-Some : goal.returns-in-Some
returns-in-Some c = doubtful_there c.args.claim.now c.in-Some.k c.args.at _ ((c.find.ensures c.in-Some.k).0 c.in-Some.is) c.is_doubtful.ensures

pub returns-in-None : goal.returns-in-None
returns-in-None c = no_flag _ _ c.args.at (λ k there. let same = (c.find.ensures k).1 there in let none = c.in-None.is in let bad : ⊥ = cc in bad)
