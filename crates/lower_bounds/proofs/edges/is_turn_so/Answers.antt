use Rattle.std.proofs.Common.{◌∙◌, sym}
use Rattle.std.proofs.lemmas.Bool.{leb-true}
use Rattle.lower_bounds.proofs.Cases.{turn_led}
use Rattle.lower_bounds.proofs.edges.is_turn_so.Goals as goal

pub returns-then-is_body : goal.returns-then-is_body
returns-then-is_body c so = turn_led c.args.case.now c.requires.case c.args.k c.args.n c.most_behind.result c.from.result c.requires.header (sym c.is_body.ensures ∙ c.if-is_body.true) c.most_behind.ensures.behind c.from.ensures
    (leb-true c.most_behind.result c.from.result so)
