use Rattle.std.proofs.Common.{◌≡◌, length, arith}
use Rattle.worst_cycles.proofs.SearchLaws.{places_sorted}
use Rattle.worst_cycles.proofs.iteration.body_places.Goals as goal

pub returns : goal.returns
returns c =
    let last : c.loop-k.k-index ≡ length c.args.body.now = omega arith in
    let size = c.loop-k.invariant.size in
    places_sorted c.args.body.now c.args.plan.now.places.items c.loop-k.steps.items c.sort.new.self.items (let r : length c.loop-k.steps.items ≡ length c.args.body.now = omega arith in r)
    (λ i il. c.loop-k.invariant.each i (omega arith)) c.sort.ensures.permutation c.in_ok-sort.ensures.sorted
