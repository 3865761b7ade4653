use Rattle.std.proofs.Common.{◌≡◌, ℕ, ◌+◌, ◌^◌, ◌<◌, ◌≤◌, true, List, [], ◌∷◌, ◌++◌, length, length-append, slice_index, Option, Some, arith, refl, sym, ap, subst}
use Rattle.graph_algorithms.specs.Arcs.{number_in_place}
use Rattle.cost_theory.specs.Lists.{body_of}
use Rattle.loop_forest.specs.Tree.{loops}
use Rattle.worst_cycles.specs.Worst.{by_edge}
use Rattle.worst_cycles.specs.Rests.{rest_in, address_at, AreFoundTo}
use Rattle.worst_cycles.proofs.SearchLaws.{value_at}
use Rattle.worst_cycles.proofs.IterationLaws.{step_inside, step_node, next_rest, found_more, rests_small, rest_too_long, body_within}
use Rattle.worst_cycles.proofs.iteration.rests_of.Goals as goal

pub index-k-requires : goal.index-k-requires
index-k-requires c =
    let same = c.loop-m.invariant.same in
    let ml : c.loop-m.m < length c.loop-m.rests.steps.items = omega arith in
    let here : number_in_place c.loop-m.rests.steps.items c.loop-m.m ≡ c.index.result.now = value_at c.loop-m.rests.steps.items c.loop-m.m c.index.result.now 0 ml c.index.ensures in
    let low : number_in_place c.loop-m.rests.steps.items c.loop-m.m < length c.args.planned.now.plan.now.order.items =
    (step_inside c.requires.planned c.loop-m.invariant.body c.loop-m.m ml).0 in
    omega arith

pub rest_at_node-rest-requires-clause-node : goal.rest_at_node-rest-requires-clause-node
rest_at_node-rest-requires-clause-node c =
    let same = c.loop-m.invariant.same in
    let ml : c.loop-m.m < length c.loop-m.rests.steps.items = omega arith in
    let step = step_inside c.requires.planned c.loop-m.invariant.body c.loop-m.m ml in
    let node = step_node c.args.planned.now.plan.now c.loop-m.rests.steps.items c.loop-m.m c.index.result.now c.index-k.result.now ml step.0 c.index.ensures c.index-k.ensures in
    subst (λ x. x < length c.args.planned.now.graph.now.code.nodes) (sym node) (c.requires.planned.plan.order.within (number_in_place c.loop-m.rests.steps.items c.loop-m.m) step.0)

pub rest_at_node-rest-requires-clause-inside : goal.rest_at_node-rest-requires-clause-inside
rest_at_node-rest-requires-clause-inside c =
    let same = c.loop-m.invariant.same in
    let ml : c.loop-m.m < length c.loop-m.rests.steps.items = omega arith in
    let step = step_inside c.requires.planned c.loop-m.invariant.body c.loop-m.m ml in
    let node = step_node c.args.planned.now.plan.now c.loop-m.rests.steps.items c.loop-m.m c.index.result.now c.index-k.result.now ml step.0 c.index.ensures c.index-k.ensures in
    subst (λ x. (loops c.args.planned.now.graph.now c.args.planned.now.tree.now).inside c.args.l (slice_index c.args.planned.now.graph.now.code.nodes x) ≡ true) (sym node) step.1

pub returns-then-is_over : goal.returns-then-is_over
returns-then-is_over c =
    let same = c.loop-m.invariant.same in
    let ml : c.loop-m.m < length c.loop-m.rests.steps.items = omega arith in
    let step = step_inside c.requires.planned c.loop-m.invariant.body c.loop-m.m ml in
    let node = step_node c.args.planned.now.plan.now c.loop-m.rests.steps.items c.loop-m.m c.index.result.now c.index-k.result.now ml step.0 c.index.ensures c.index-k.ensures in
    let over = c.is_over.ensures.over c.if-is_over.true in (
      refl,
      rest_too_long c.requires.planned c.args.l (address_at c.args.planned.now.graph.now c.args.planned.now.plan.now c.loop-m.rests.steps.items c.loop-m.m) over.0 c.rest_at_node-rest.result c.requires.within step.1
          (next_rest c.requires.planned c.args.visits.now c.loop-m.m c.index-k.result.now c.loop-m.rests c.rest_at_node-rest.result c.requires.visited
          c.loop-m.invariant.body ml c.loop-m.invariant.size c.loop-m.invariant.found node c.rest_at_node-rest.ensures) over.1 over.2,
    )

pub loop-m-preserved : goal.loop-m-preserved
loop-m-preserved c =
    let same = c.loop-m.invariant.same in
    let ml : c.loop-m.m < length c.loop-m.rests.steps.items = omega arith in
    let step = step_inside c.requires.planned c.loop-m.invariant.body c.loop-m.m ml in
    let node = step_node c.args.planned.now.plan.now c.loop-m.rests.steps.items c.loop-m.m c.index.result.now c.index-k.result.now ml step.0 c.index.ensures c.index-k.ensures in
    let items : c.push.new.self.items ≡ c.loop-m.rests.found.items ++ c.rest_at_node-rest.result ∷ [] = c.in_ok-push.ensures.items in
    let longer : length c.push.new.self.items ≡ length (c.loop-m.rests.found.items ++ c.rest_at_node-rest.result ∷ []) = ap length items in
    let more : length (c.loop-m.rests.found.items ++ c.rest_at_node-rest.result ∷ []) ≡ length c.loop-m.rests.found.items + 1 = length-append c.loop-m.rests.found.items (c.rest_at_node-rest.result ∷ []) in
    let size = c.loop-m.invariant.size in
    record {
      body = c.loop-m.invariant.body;
      same = c.loop-m.invariant.same;
      size = let r : length c.push.new.self.items ≡ c.loop-m.m + 1 = omega arith in r;
      small = subst (λ (xs : List (Option ℕ)). (q b : ℕ) → rest_in xs q ≡ Some b → b ≤ 2 ^ 48 + 2 ^ 32) (sym items)
          (rests_small c.loop-m.rests.found.items c.rest_at_node-rest.result c.loop-m.invariant.small (c.is_over.ensures.within c.if-is_over.false));
      found = subst (AreFoundTo c.args.planned.now.graph.now c.args.planned.now.tree.now (by_edge c.args.planned.now.weights.now) c.args.planned.now.plan.now c.args.l c.loop-m.rests.steps.items (c.loop-m.m + 1)) (sym items)
          (found_more c.args.planned.now.graph.now c.args.planned.now.tree.now (by_edge c.args.planned.now.weights.now) c.args.planned.now.plan.now c.args.l c.loop-m.m c.loop-m.rests.steps.items c.loop-m.rests.found.items c.rest_at_node-rest.result c.loop-m.invariant.size c.loop-m.invariant.found
          (next_rest c.requires.planned c.args.visits.now c.loop-m.m c.index-k.result.now c.loop-m.rests c.rest_at_node-rest.result c.requires.visited
          c.loop-m.invariant.body ml c.loop-m.invariant.size c.loop-m.invariant.found node c.rest_at_node-rest.ensures));
    }

pub returns : goal.returns
returns c =
    let same = c.loop-m.invariant.same in
    let size = c.loop-m.invariant.size in
    let last : c.loop-m.m ≡ length c.loop-m.rests.steps.items = omega arith in
    record {
      places = c.loop-m.invariant.body.places;
      sizes = (let r : length c.loop-m.rests.found.items ≡ length c.loop-m.rests.steps.items = omega arith in r);
      table = record { rise = c.loop-m.invariant.body.places.rise; small = c.loop-m.invariant.small };
      found = subst (λ m. AreFoundTo c.args.planned.now.graph.now c.args.planned.now.tree.now (by_edge c.args.planned.now.weights.now) c.args.planned.now.plan.now c.args.l c.loop-m.rests.steps.items m c.loop-m.rests.found.items) last c.loop-m.invariant.found;
    }

pub body_places-requires : goal.body_places-requires
body_places-requires c =
    let size = c.requires.planned.plan.places_size in
    record {
      within = subst (λ xs. (i : ℕ) → i < length xs → number_in_place xs i < length c.args.planned.now.plan.now.places.items) (sym c.body.ensures)
          (λ i il. subst (λ n. number_in_place (body_of c.args.planned.now.tree.now.bodies c.args.l) i < n) (sym size) (body_within c.args.planned.now.graph.now c.args.planned.now.tree.now c.requires.planned.tree.0 c.requires.planned.tree.1 c.args.l i c.requires.within il));
    }
