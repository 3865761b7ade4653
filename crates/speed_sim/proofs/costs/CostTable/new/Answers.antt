use Rattle.speed_sim.proofs.TallyLaws.{costs_in_place}
use Rattle.speed_sim.proofs.costs.CostTable.new.Goals as goal

pub returns : goal.returns
returns c = costs_in_place c.args.costs.now
