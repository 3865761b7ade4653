use Rattle.std.proofs.Common.{refl, ap}
use Rattle.power_model.specs.Numbers.{PowerModel}
use Rattle.image_check.proofs.CheckLaws.{least_calls, worst_in_range, known, misled, passed}
use Rattle.image_check.proofs.checking.check_levels.Goals as goal

pub least-requires-clause-calls : goal.least-requires-clause-calls
least-requires-clause-calls c =
    let r = c.requires.costs in
    least_calls c.args.original.now c.requires.original c.args.received.now c.args.costs.now r.0 r.1 r.2

pub least-requires-clause-worst : goal.least-requires-clause-worst
least-requires-clause-worst c =
    let r = c.requires.costs in
    worst_in_range c.args.original.now c.requires.original c.args.received.now c.args.costs.now r.0 r.1 r.2

pub first_bad_level-requires : goal.first_bad_level-requires
first_bad_level-requires c =
    let r = c.requires.costs in
    let least = c.in_ok-least.ensures.least in
    (c.args.original.now.view, r.0, _, r.1, least.0, known c.args.original.now c.requires.original c.args.received.now c.args.costs.now r.0 r.1 r.2 c.in_ok-least.least least.0 least.1 least.2 c.in_ok-least.ensures.small)

pub stub_cycles-requires-clause-costs : goal.stub_cycles-requires-clause-costs
stub_cycles-requires-clause-costs c =
    let r = c.requires.costs in
    (r.0, c.args.costs.now, r.1, r.2)

pub returns-in-Some : goal.returns-in-Some
returns-in-Some c =
    let r = c.requires.costs in
    let least = c.in_ok-least.ensures.least in
    misled c.args.original.now c.requires.original c.args.received.now c.args.costs.now r.0 r.1 r.2 c.in_ok-least.least least.0 least.1 least.2 c.in_ok-least.ensures.small c.args.start c.in-Some.at c.in-Some.from r.3
    (rw c.in-Some.is at (c.in_ok-bad.ensures c.args.original.now.view r.0 _ r.1 least.0 (known c.args.original.now c.requires.original c.args.received.now c.args.costs.now r.0 r.1 r.2 c.in_ok-least.least least.0 least.1 least.2 c.in_ok-least.ensures.small)))

pub returns : goal.returns
returns c =
    let r = c.requires.costs in
    let least = c.in_ok-least.ensures.least in
    passed c.args.original.now c.requires.original c.args.received.now c.args.costs.now r.0 r.1 r.2 c.in_ok-least.least least.0 least.1 least.2 c.in_ok-least.ensures.small _ c.total-worst.result c.in_ok-stub_cycles-in-None.field-0 r.3
    (rw c.in-None.is at (c.in_ok-bad.ensures c.args.original.now.view r.0 _ r.1 least.0 (known c.args.original.now c.requires.original c.args.received.now c.args.costs.now r.0 r.1 r.2 c.in_ok-least.least least.0 least.1 least.2 c.in_ok-least.ensures.small)))
    c.total-worst.ensures (c.in_ok-stub_cycles-in-None.ensures r.0 r.2.received) refl c.time_at.ensures (ap (λ (m : PowerModel). m.deadline) c.power.view_is) refl
