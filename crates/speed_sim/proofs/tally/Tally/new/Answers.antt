use Rattle.std.proofs.Common.{◌∙◌, ap}
use Rattle.power_model.specs.Numbers.{RunPrice}
use Rattle.speed_sim.specs.Tallied.{with_cycles}
use Rattle.speed_sim.proofs.TallyLaws.{none_more}
use Rattle.speed_sim.proofs.tally.Tally.new.Goals as goal

pub returns : goal.returns
returns c = λ power. ap (λ (n : RunPrice). with_cycles power n 0 0 0) c.new.ensures ∙ none_more power _
