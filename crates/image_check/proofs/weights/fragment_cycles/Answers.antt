use Rattle.std.proofs.Common.{ap, ◌∙◌}
use Rattle.scale_sites.specs.Weights.{mark_cost}
use Rattle.image_check.proofs.Extras.{mark_alike}
use Rattle.image_check.proofs.weights.fragment_cycles.Goals as goal

pub returns-clause-cost : goal.returns-clause-cost
returns-clause-cost c = c.mark_cost.ensures.cost ∙ (ap (mark_cost c.args.costs.now) c.mark_of.ensures ∙ mark_alike c.args.costs.now c.args.fragment.now)
