use Rattle.std.proofs.Common.{ap}
use Rattle.power_model.specs.Numbers.{PowerModel}
use Rattle.image_check.proofs.CheckLaws.{stored_is, calls_of, over_long, short_costs}
use Rattle.image_check.proofs.checking.check_worst.Goals as goal

pub worst-requires-clause-calls : goal.worst-requires-clause-calls
worst-requires-clause-calls c =
    let r = c.requires.received in
    calls_of c.args.original.now c.requires.original c.args.received.now r.0 r.1 c.in_ok-weights.weights
    (stored_is c.args.original.now c.requires.original c.args.received.now r.0 r.1 c.power.inside.costs (ap (λ (m : PowerModel). m.costs) c.power.view_is) c.in_ok-weights.weights c.in_ok-weights.ensures.weights)

pub check_start-requires-clause-costs : goal.check_start-requires-clause-costs
check_start-requires-clause-costs c =
    let r = c.requires.received in
    let x = short_costs c.args.original.now c.requires.original c.args.received.now r.0 r.1 c.in_ok-weights.weights c.in-Ok.worst
    (stored_is c.args.original.now c.requires.original c.args.received.now r.0 r.1 c.power.inside.costs (ap (λ (m : PowerModel). m.costs) c.power.view_is) c.in_ok-weights.weights c.in_ok-weights.ensures.weights)
    c.in_ok-weights.ensures.size c.in_ok-weights.ensures.small c.in-Ok.ensures.found c.in-Ok.ensures.sizes c.in-Ok.ensures.left in
    (r.0, x.0, x.1)

pub returns-in-Err-Refused : goal.returns-in-Err-Refused
returns-in-Err-Refused c =
    let r = c.requires.received in
    over_long c.args.original.now c.requires.original c.args.received.now r.0 r.1 c.in_ok-weights.weights c.in-Err-Refused.field-0-0
    (stored_is c.args.original.now c.requires.original c.args.received.now r.0 r.1 c.power.inside.costs (ap (λ (m : PowerModel). m.costs) c.power.view_is) c.in_ok-weights.weights c.in_ok-weights.ensures.weights)
    (rw c.in-Err-Refused.field-0-is at c.in-Err-Refused.ensures.found)
