use Rattle.std.proofs.Common.{◌∙◌, sym}
use Rattle.std.proofs.lemmas.Bool.{leb-true}
use Rattle.lower_bounds.proofs.Cases.{along_led, other_led}
use Rattle.lower_bounds.proofs.edges.is_along_so.Goals as goal

pub returns-then-not-is_body : goal.returns-then-not-is_body
returns-then-not-is_body c so = other_led c.args.case.now c.requires.case c.args.k c.args.n c.requires.to c.requires.other (sym c.is_body.ensures ∙ c.if-not-is_body.true)

pub returns-then-is_body : goal.returns-then-is_body
returns-then-is_body c so = along_led c.args.case.now c.requires.case c.args.k c.args.n c.most_behind.result c.from.result c.requires.to c.requires.other (sym c.is_body-2.ensures ∙ c.if-is_body.true) c.most_behind.ensures.behind
    (c.from.ensures ∙ c.added.ensures) (leb-true c.most_behind.result c.from.result so)
