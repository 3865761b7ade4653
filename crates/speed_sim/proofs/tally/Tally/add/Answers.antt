use Rattle.std.proofs.Common.{◌≡◌, ◌∙◌, sym}
use Rattle.std.proofs.lemmas.Bool.{cond-true, cond-false}
use Rattle.power_model.specs.Price.{step_cycles, keyed_cycles}
use Rattle.speed_sim.proofs.TallyLaws.{one_step_more}
use Rattle.speed_sim.proofs.tally.Tally.add.Goals.{then-keyed, else-keyed}
use Rattle.speed_sim.proofs.tally.Tally.add.Goals as goal

pub returns : goal.returns
returns c = λ power x quiet is keyed_is.
    let cost : c.from.result ≡ step_cycles power x = c.from.ensures ∙ is in
    let more : c.if-keyed.self ≡ keyed_cycles power x = elim c.if-keyed.branch [
      | then-keyed w ↦ w.self-is ∙ w.from-then-keyed.ensures ∙ is ∙ sym (cond-true x.keyed (step_cycles power x) 0 (sym keyed_is ∙ w.if-keyed.true))
      | else-keyed w ↦ w.self-is ∙ sym (cond-false x.keyed (step_cycles power x) 0 (sym keyed_is ∙ w.if-keyed.false))
    ] in
    let before = c.args.self.now in
    one_step_more power before.meter before.steps before.cycles before.keyed c.from.result c.if-keyed.self x quiet cost more
