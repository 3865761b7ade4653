use Rattle.std.proofs.Common.{◌+◌, ◌<◌, refl, ap, ◌∙◌, arith}
use Rattle.level_reasons.specs.Reasons.{percent_down, percent_up}
use Rattle.level_reasons.proofs.EdgeFacts.{lacks_none, lacks_some, stays_unpaid}
use Rattle.level_reasons.proofs.edges.stays.Goals as goal

pub returns-then-lack-eq0 : goal.returns-then-lack-eq0
returns-then-lack-eq0 c =
    let down = lacks_none c.args.power.now c.args.level c.args.told c.lack_of-lack.result c.lack_of-lack.ensures.lack c.if-lack-eq0.true in
    (c.requires.above, c.requires.stays, down, stays_unpaid c.args.power.now c.args.level c.args.told c.requires.above c.requires.stays down, refl)

pub returns : goal.returns
returns c =
    let some : 0 < c.lack_of-lack.result = omega arith in (
      c.requires.above,
      c.requires.stays,
      lacks_some c.args.power.now c.args.level c.args.told c.lack_of-lack.result c.lack_of-lack.ensures.lack some,
      c.percent_down.ensures ∙ ap (λ x. percent_down x c.args.told.left) c.from-2.ensures,
      (c.lack_of-lack.result, c.lack_of-lack.ensures.lack, c.percent_up.ensures ∙ ap (λ x. percent_up (x + c.lack_of-lack.result) c.args.told.left) c.from.ensures),
    )
