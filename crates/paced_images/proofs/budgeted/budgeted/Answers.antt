use Rattle.std.proofs.Common.{◌∙◌, ap}
use Rattle.marked_images.specs.Stored.{by_deadline}
use Rattle.paced_images.specs.Paced.{paced_budget, paced_rule}
use Rattle.paced_images.proofs.MarkedFacts.{level_in_time, level_low, total_is, with_budgets}
use Rattle.paced_images.proofs.budgeted.budgeted.Goals as goal

pub budgets_of-budgets-requires-clause-level : goal.budgets_of-budgets-requires-clause-level
budgets_of-budgets-requires-clause-level c = let h = c.requires.found in
    level_low c.args.power.now h.0 h.1 h.2 h.3 (by_deadline c.args.power.now) (paced_rule c.args.power.now c.args.share) c.args.marking c.args.start h.4

pub budgets_of-budgets-requires-clause-in_time : goal.budgets_of-budgets-requires-clause-in_time
budgets_of-budgets-requires-clause-in_time c = let h = c.requires.found in
    level_in_time c.args.power.now h.0 h.1 h.2 h.3 (by_deadline c.args.power.now) (paced_rule c.args.power.now c.args.share) c.args.marking c.args.start h.4 c.total.result c.total.ensures

pub returns : goal.returns
returns c = λ image v t wanted h.
    let power = c.args.power.now in
    let share = c.args.share in
    let total = total_is power image v t wanted (by_deadline power) (paced_rule power share) c.args.marking c.args.start h c.total.result c.total.ensures in
    with_budgets power image v t wanted (by_deadline power) (paced_rule power share) c.args.marking c.args.start h c.budgets_of-budgets.result
    (λ i. c.budgets_of-budgets.ensures i ∙ ap (λ k. paced_budget power c.args.start k share i) total)
