use Rattle.std.proofs.Common.{◌≡◌, ◌<◌, ℕ, Bool, List, Option, length, unwrap_or, sym, ap, ◌∙◌, subst, arith}
use Rattle.std.proofs.lemmas.Option.{same_Some}
use Rattle.least_cycles.specs.Functions.{ArePlacesIn, AreKinds, AreLeastRuns}
use Rattle.least_cycles.specs.Charging.{cost_with}
use Rattle.least_cycles.proofs.EndLaws.{value_at}
use Rattle.least_cycles.proofs.ChargeLaws.{small_charges}
use Rattle.least_cycles.proofs.LoopLaws.{body_kinds, header_spot, turn_found}
use Rattle.least_cycles.proofs.turns.turn_of.Goals as goal

pub least_in-requires : goal.least_in-requires
least_in-requires c =
    let body = c.args.body.now in
    record {
      flow = c.requires.body.flow;
      nodes = record { within = c.requires.body.nodes.within; once = c.requires.body.nodes.once };
      few = c.requires.few;
      places = subst (λ (spots : List ℕ). ArePlacesIn body.nodes.now spots) (sym c.deref-2.ensures.value) c.requires.spots;
      size = ap length c.deref-2.ensures.value ∙ c.requires.marks.spots;
      kinds = subst (λ (turns : List Bool). AreKinds body.graph.now body.nodes.now turns c.deref-4.result.now) (sym c.deref-3.ensures.value)
          (subst (λ (stays : List Bool). AreKinds body.graph.now body.nodes.now c.mark_body.new.turns.items stays) (sym c.deref-4.ensures.value)
          (body_kinds body.graph.now body.tree.now body.number body.nodes.now c.mark_body.new.turns.items c.mark_body.new.stays.items c.requires.body.flow c.requires.body.nodes c.mark_body.ensures));
      costs = c.requires.costs;
      low = c.requires.low;
      charges = small_charges body.graph.now body.tree.now c.args.charges.now c.requires.charges;
    }

pub index-requires-2 : goal.index-requires-2
index-requires-2 c =
    let k = c.requires.known in
    let spot = header_spot c.args.body.now.graph.now c.args.body.now.tree.now k.0 k.1 k.3.charging c.args.body.now.number c.args.body.now.nodes.now c.args.marks.now.spots.items c.header.result c.index.result.now c.requires.body.loop_number c.requires.body.nodes c.requires.spots c.requires.marks.spots c.header.ensures c.index.ensures in
    let low = spot.0 in
    let size = c.in_ok-table.ensures.size in
    let ok = c.in_ok-table.table.ok.0 in
    omega arith

pub small-requires : goal.small-requires
small-requires c = λ x at.
    let v = c.args.body.now.graph.now in
    let k = c.requires.known in
    let spot = header_spot v c.args.body.now.tree.now k.0 k.1 k.3.charging c.args.body.now.number c.args.body.now.nodes.now c.args.marks.now.spots.items c.header.result c.index.result.now c.requires.body.loop_number c.requires.body.nodes c.requires.spots c.requires.marks.spots c.header.ensures c.index.ensures in
    let low = spot.0 in
    let size = c.in_ok-table.ensures.size in
    let tl : c.index.result.now < length c.in_ok-table.table.items = omega arith in
    let least = subst (λ (turns : List Bool). AreLeastRuns v turns c.mark_body.new.stays.items (cost_with c.args.costs.now c.args.charges.now) c.args.body.now.nodes.now c.in_ok-table.table.items) c.deref-3.ensures.value
    (subst (λ (stays : List Bool). AreLeastRuns v c.deref-3.result.now stays (cost_with c.args.costs.now c.args.charges.now) c.args.body.now.nodes.now c.in_ok-table.table.items) c.deref-4.ensures.value c.in_ok-table.ensures.least) in
    let found = turn_found v c.args.body.now.tree.now k.0 k.1 k.3.charging c.args.body.now.number c.args.body.now.nodes.now c.args.costs.now k.2 c.mark_body.new.turns.items c.mark_body.new.stays.items c.args.charges.now c.requires.body.loop_number c.requires.body.nodes k.3.priced c.requires.charges.entered k.3.inner c.mark_body.ensures c.index.result.now c.in_ok-table.table.items spot.0 spot.1 least in
    let same : k.1.turn c.args.body.now.number ≡ x = same_Some (k.1.turn c.args.body.now.number) x (sym found ∙ sym (value_at c.in_ok-table.table.items c.index.result.now c.index-2.result.now tl c.index-2.ensures) ∙ at) in
    let most = k.3.charging.turns c.args.body.now.number c.requires.body.loop_number c.requires.turning in
    omega arith

pub returns-clause-turn : goal.returns-clause-turn
returns-clause-turn c = λ w n lasts known.
    let v = c.args.body.now.graph.now in
    let spot = header_spot v c.args.body.now.tree.now w n known.charging c.args.body.now.number c.args.body.now.nodes.now c.args.marks.now.spots.items c.header.result c.index.result.now c.requires.body.loop_number c.requires.body.nodes c.requires.spots c.requires.marks.spots c.header.ensures c.index.ensures in
    let low = spot.0 in
    let size = c.in_ok-table.ensures.size in
    let tl : c.index.result.now < length c.in_ok-table.table.items = omega arith in
    let least = subst (λ (turns : List Bool). AreLeastRuns v turns c.mark_body.new.stays.items (cost_with c.args.costs.now c.args.charges.now) c.args.body.now.nodes.now c.in_ok-table.table.items) c.deref-3.ensures.value
    (subst (λ (stays : List Bool). AreLeastRuns v c.deref-3.result.now stays (cost_with c.args.costs.now c.args.charges.now) c.args.body.now.nodes.now c.in_ok-table.table.items) c.deref-4.ensures.value c.in_ok-table.ensures.least) in
    let found = turn_found v c.args.body.now.tree.now w n known.charging c.args.body.now.number c.args.body.now.nodes.now c.args.costs.now lasts c.mark_body.new.turns.items c.mark_body.new.stays.items c.args.charges.now c.requires.body.loop_number c.requires.body.nodes known.priced c.requires.charges.entered known.inner c.mark_body.ensures c.index.result.now c.in_ok-table.table.items spot.0 spot.1 least in
    c.small.ensures ∙ ap (λ (o : Option ℕ). unwrap_or o 0) (value_at c.in_ok-table.table.items c.index.result.now c.index-2.result.now tl c.index-2.ensures ∙ found)
