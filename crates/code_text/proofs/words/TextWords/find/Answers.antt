use Rattle.std.proofs.Common.{sym, ap, subst, ◌∙◌}
use Rattle.code_text.specs.Walk.{RiseStrictly}
use Rattle.code_text.proofs.Searches.{found_in}
use Rattle.code_text.proofs.words.TextWords.find.Goals as goal

pub returns : goal.returns
returns c =
    found_in c.args.self.now.addresses c.deref.result.now c.args.at c.binary_search.result c.ok.result
    (c.deref.ensures.value ∙ ap (λ w. w.addresses) c.self.view_is) c.ok.ensures.value c.binary_search.ensures.position (subst RiseStrictly (sym c.deref.ensures.value) c.self.invariant.1)
