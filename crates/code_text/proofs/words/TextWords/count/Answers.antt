use Rattle.std.proofs.Common.{ap, subst}
use Rattle.code_text.specs.Walk.{RiseStrictly}
use Rattle.code_text.proofs.words.TextWords.count.Goals as goal

pub returns-clause-rising : goal.returns-clause-rising
returns-clause-rising c = subst RiseStrictly (ap (λ w. w.addresses) c.self.view_is) c.self.invariant.1
