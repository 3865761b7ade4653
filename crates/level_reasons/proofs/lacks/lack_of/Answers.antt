use Rattle.std.proofs.Common.{◌≡◌, ◌+◌, ◌-◌, ◌<◌, List, ap, ◌∙◌, refl, subst, arith}
use Rattle.power_model.specs.declared.power.Level.{Level}
use Rattle.power_model.specs.Levels.{level, ArePositive}
use Rattle.power_model.specs.Numbers.{PowerModel}
use Rattle.level_reasons.proofs.LackFacts.{lack_from}
use Rattle.level_reasons.proofs.lacks.lack_of.Goals as goal

pub returns-then-need-have-clause-lack : goal.returns-then-need-have-clause-lack
returns-then-need-have-clause-lack c =
    let levels = ap (λ (p : PowerModel). p.levels) c.power.view_is in
    let positive = subst ArePositive levels c.power.invariant.positive in
    let low = positive c.args.level c.requires.level in
    let pos : 0 < (level c.args.power.now.levels c.args.level).period = omega (arith, low.0) in
    let have : c.from-4.result + c.from-5.result ≡ c.args.told.left + c.args.told.slack = cc in
    lack_from c.args.power.now c.args.level c.args.told pos c.div_ceil-need.result c.from.result c.from-2.result c.from-switch.result c.from-3.result (c.from-4.result + c.from-5.result) _
    c.div_ceil-need.ensures c.from.ensures (c.from-2.ensures ∙ ap (λ (x : Level). x.period) c.get.ensures ∙ ap (λ (ls : List Level). (level ls (c.args.level - 1)).period) levels) (c.from-switch.ensures ∙ c.switch_time_of.ensures) (c.from-3.ensures ∙ ap (λ (x : Level). x.period) c.get-2.ensures ∙ ap (λ (ls : List Level). (level ls c.args.level).period) levels) have refl

pub returns-else-need-have-clause-lack : goal.returns-else-need-have-clause-lack
returns-else-need-have-clause-lack c =
    let levels = ap (λ (p : PowerModel). p.levels) c.power.view_is in
    let positive = subst ArePositive levels c.power.invariant.positive in
    let low = positive c.args.level c.requires.level in
    let pos : 0 < (level c.args.power.now.levels c.args.level).period = omega (arith, low.0) in
    let have : c.from-4.result + c.from-5.result ≡ c.args.told.left + c.args.told.slack = cc in
    let none : 0 ≡ c.div_ceil-need.result - (c.from-4.result + c.from-5.result) = omega (arith, c.if-need-have.false) in
    lack_from c.args.power.now c.args.level c.args.told pos c.div_ceil-need.result c.from.result c.from-2.result c.from-switch.result c.from-3.result (c.from-4.result + c.from-5.result) 0
    c.div_ceil-need.ensures c.from.ensures (c.from-2.ensures ∙ ap (λ (x : Level). x.period) c.get.ensures ∙ ap (λ (ls : List Level). (level ls (c.args.level - 1)).period) levels) (c.from-switch.ensures ∙ c.switch_time_of.ensures) (c.from-3.ensures ∙ ap (λ (x : Level). x.period) c.get-2.ensures ∙ ap (λ (ls : List Level). (level ls c.args.level).period) levels) have none
