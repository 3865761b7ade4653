use Rattle.std.proofs.Common.{◌≡◌, ◌*◌, ℕ, List, slice_index, sym, ap, ◌∙◌, subst, arith}
use Rattle.std.proofs.lemmas.Option.{get_or_from_slice_get}
use Rattle.least_cycles.specs.Charging.{IsBodyOf, loop_charge}
use Rattle.least_cycles.proofs.LoopLaws.{closed_is, charge_open, charge_closed}
use Rattle.least_cycles.proofs.turns.charge_of_loop.Goals as goal

pub returns-then-not-are_shut-clause-charge : goal.returns-then-not-are_shut-clause-charge
returns-then-not-are_shut-clause-charge c = λ w n known.
    let v = c.args.priced.now.graph.now in
    let t = c.args.priced.now.tree.now in
    let body = subst (λ (nodes : List ℕ). IsBodyOf v t c.args.l nodes) (sym c.deref.ensures.value) c.in_ok-nodes.ensures.nodes in
    let closed = closed_is v t w n known.charging c.args.l c.deref.result.now c.args.priced.now.costs.now c.args.priced.now.lasts.now c.requires.loop_number body known.priced c.are_shut.result c.are_shut.ensures in
    sym (charge_open v t w n known.charging c.args.l (sym closed ∙ c.if-not-are_shut.true))

pub turn_of-requires-clause-body : goal.turn_of-requires-clause-body
turn_of-requires-clause-body c = record {
  flow = c.requires.priced.flow;
  tree = c.requires.priced.tree;
  loop_number = c.requires.loop_number;
  nodes = subst (λ (nodes : List ℕ). IsBodyOf c.args.priced.now.graph.now c.args.priced.now.tree.now c.args.l nodes) (sym c.deref-2.ensures.value) c.in_ok-nodes.ensures.nodes;
}

pub turn_of-requires-clause-turning : goal.turn_of-requires-clause-turning
turn_of-requires-clause-turning c =
    let trips = get_or_from_slice_get c.args.priced.now.tree.now.least_trips c.args.l c.least_trips-trips.result 0 c.least_trips-trips.ensures.trips in
    let some = c.if-trips-eq0.false in
    omega arith

pub overflow_mul-result : goal.overflow_mul-result
overflow_mul-result c =
    let v = c.args.priced.now.graph.now in
    let t = c.args.priced.now.tree.now in
    let k = c.requires.known in
    let body = subst (λ (nodes : List ℕ). IsBodyOf v t c.args.l nodes) (sym c.deref.ensures.value) c.in_ok-nodes.ensures.nodes in
    let closed = closed_is v t k.0 k.1 k.2.charging c.args.l c.deref.result.now c.args.priced.now.costs.now c.args.priced.now.lasts.now c.requires.loop_number body k.2.priced c.are_shut.result c.are_shut.ensures in
    let charge : loop_charge v t k.1 c.args.l ≡ slice_index t.least_trips c.args.l * k.1.turn c.args.l = charge_closed v t k.0 k.1 k.2.charging c.args.l (sym closed ∙ c.if-not-are_shut.false) in
    let trips : c.from.result ≡ slice_index t.least_trips c.args.l = c.from.ensures ∙ sym (get_or_from_slice_get t.least_trips c.args.l c.least_trips-trips.result 0 c.least_trips-trips.ensures.trips) in
    let turn : c.in_ok-turn.turn ≡ k.1.turn c.args.l = c.in_ok-turn.ensures.turn k.0 k.1 c.args.priced.now.lasts.now k.2 in
    let same : c.from.result * c.in_ok-turn.turn ≡ loop_charge v t k.1 c.args.l = ap (λ x. x * c.in_ok-turn.turn) trips ∙ ap (λ x. slice_index t.least_trips c.args.l * x) turn ∙ sym charge in
    let low = k.2.charging.charges c.args.l c.requires.loop_number in
    omega arith

pub returns-clause-charge : goal.returns-clause-charge
returns-clause-charge c = λ w n known.
    let v = c.args.priced.now.graph.now in
    let t = c.args.priced.now.tree.now in
    let body = subst (λ (nodes : List ℕ). IsBodyOf v t c.args.l nodes) (sym c.deref.ensures.value) c.in_ok-nodes.ensures.nodes in
    let closed = closed_is v t w n known.charging c.args.l c.deref.result.now c.args.priced.now.costs.now c.args.priced.now.lasts.now c.requires.loop_number body known.priced c.are_shut.result c.are_shut.ensures in
    let charge : loop_charge v t n c.args.l ≡ slice_index t.least_trips c.args.l * n.turn c.args.l = charge_closed v t w n known.charging c.args.l (sym closed ∙ c.if-not-are_shut.false) in
    let trips : c.from.result ≡ slice_index t.least_trips c.args.l = c.from.ensures ∙ sym (get_or_from_slice_get t.least_trips c.args.l c.least_trips-trips.result 0 c.least_trips-trips.ensures.trips) in
    ap (λ x. x * c.in_ok-turn.turn) trips ∙ ap (λ x. slice_index t.least_trips c.args.l * x) (c.in_ok-turn.ensures.turn w n c.args.priced.now.lasts.now known) ∙ sym charge
