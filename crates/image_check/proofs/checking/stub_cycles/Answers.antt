use Rattle.std.proofs.Common.{ap}
use Rattle.power_model.specs.Numbers.{PowerModel}
use Rattle.image_check.proofs.CheckLaws.{added_is, added_calls_of, extra_cycles_are, never_long}
use Rattle.image_check.proofs.checking.stub_cycles.Goals as goal

pub worst-requires-clause-calls : goal.worst-requires-clause-calls
worst-requires-clause-calls c =
    let r = c.requires.costs in
    added_calls_of c.args.original.now c.requires.original c.args.received.now r.0 r.3.received c.in_ok-weights.weights
    (added_is c.args.original.now c.requires.original c.args.received.now r.0 r.3.received c.power.inside.costs (ap (λ (m : PowerModel). m.costs) c.power.view_is) c.in_ok-weights.weights c.in_ok-weights.ensures.weights)

pub returns-in-Ok : goal.returns-in-Ok
returns-in-Ok c = λ found received.
    extra_cycles_are c.args.original.now c.requires.original c.args.received.now found received c.in_ok-weights.weights c.in-Ok.worst c.total.result
    (added_is c.args.original.now c.requires.original c.args.received.now found received c.power.inside.costs (ap (λ (m : PowerModel). m.costs) c.power.view_is) c.in_ok-weights.weights c.in_ok-weights.ensures.weights)
    c.in-Ok.ensures.found c.total.ensures

pub unreachable-requires : goal.unreachable-requires
unreachable-requires c =
    let r = c.requires.costs in
    never_long c.args.original.now c.requires.original c.args.received.now r.1 r.0 r.2 r.3 c.in_ok-weights.weights c.in-Err-Refused.field-0-0
    (added_is c.args.original.now c.requires.original c.args.received.now r.0 r.3.received c.power.inside.costs (ap (λ (m : PowerModel). m.costs) c.power.view_is) c.in_ok-weights.weights c.in_ok-weights.ensures.weights)
    (rw c.in-Err-Refused.field-0-is at c.in-Err-Refused.ensures.found)
