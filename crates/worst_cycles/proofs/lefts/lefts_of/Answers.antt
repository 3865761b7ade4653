use Rattle.std.proofs.Common.{◌≡◌, ◌+◌, ◌-◌, ◌^◌, ◌<◌, ◌≤◌, length, arith, sym, ap, ◌∙◌, subst}
use Rattle.graph_algorithms.specs.Arcs.{number_in_place}
use Rattle.worst_cycles.specs.Worst.{by_edge}
use Rattle.worst_cycles.specs.Visits.{visit_at}
use Rattle.worst_cycles.specs.Lefts.{AreLeftsTo}
use Rattle.worst_cycles.proofs.SearchLaws.{value_at}
use Rattle.worst_cycles.proofs.WorstLaws.{header_iteration}
use Rattle.worst_cycles.proofs.IterationLaws.{IsBodyAt, step_inside}
use Rattle.worst_cycles.proofs.LeftLaws.{lefts_first, lefts_more, lefts_on, lefts_last, visited_before, headed_loop, iteration_small, left_small, unheaded}
use Rattle.worst_cycles.proofs.lefts.lefts_of.Goals as goal

pub loop-i-init : goal.loop-i-init
loop-i-init c =
    let same : length c.args.visited.now.planned.plan.now.order.items ≡ c.len-i.result = omega arith in
    record {
      within = omega arith;
      size = c.in_ok-left.ensures.size ∙ c.requires.visited.visits.table.size;
      lefts = subst (λ i. AreLeftsTo c.args.visited.now.planned.graph.now c.args.visited.now.planned.tree.now (by_edge c.args.visited.now.planned.weights.now) c.args.visited.now.planned.plan.now i c.in_ok-left.left.items) same
          (lefts_first c.requires.visited.planned c.in_ok-left.left.items c.requires.visited.visits c.in_ok-left.ensures.each);
    }

pub rests_of-requires-clause-within : goal.rests_of-requires-clause-within
rests_of-requires-clause-within c =
    let within = c.loop-i.invariant.within in
    let il : c.loop-i.i - 1 < length c.args.visited.now.planned.plan.now.order.items = omega arith in
    (headed_loop c.requires.visited.planned (c.loop-i.i - 1) c.index-k.result.now c.in-Some.l c.index.result.now il c.index-k.ensures c.index.ensures c.in-Some.is).0

pub rests_of-requires-clause-header : goal.rests_of-requires-clause-header
rests_of-requires-clause-header c =
    let within = c.loop-i.invariant.within in
    let il : c.loop-i.i - 1 < length c.args.visited.now.planned.plan.now.order.items = omega arith in
    (headed_loop c.requires.visited.planned (c.loop-i.i - 1) c.index-k.result.now c.in-Some.l c.index.result.now il c.index-k.ensures c.index.ensures c.in-Some.is).1

pub rests_of-requires-clause-visited : goal.rests_of-requires-clause-visited
rests_of-requires-clause-visited c = visited_before c.args.visited.now.planned.plan.now.order.items (c.loop-i.i - 1) c.requires.visited.visits

pub offset_bounds-visited-k : goal.offset_bounds-visited-k
offset_bounds-visited-k c =
    let within = c.loop-i.invariant.within in
    let il : c.loop-i.i - 1 < length c.args.visited.now.planned.plan.now.order.items = omega arith in
    let heads = headed_loop c.requires.visited.planned (c.loop-i.i - 1) c.index-k.result.now c.in-Some.l c.index.result.now il c.index-k.ensures c.index.ensures c.in-Some.is in
    let node = heads.2 in
    let kl : number_in_place c.args.visited.now.planned.plan.now.order.items (c.loop-i.i - 1) < length c.args.visited.now.planned.graph.now.code.nodes = c.requires.visited.planned.plan.order.within (c.loop-i.i - 1) il in
    let size = c.requires.visited.visits.table.size in
    let low : c.index-k.result.now < length c.args.visited.now.visits.now = omega arith in
    omega arith

pub raise_lefts-requires-clause-steps : goal.raise_lefts-requires-clause-steps
raise_lefts-requires-clause-steps c = λ m ml.
    let within = c.loop-i.invariant.within in
    let il : c.loop-i.i - 1 < length c.args.visited.now.planned.plan.now.order.items = omega arith in
    let heads = headed_loop c.requires.visited.planned (c.loop-i.i - 1) c.index-k.result.now c.in-Some.l c.index.result.now il c.index-k.ensures c.index.ensures c.in-Some.is in
    let body : IsBodyAt c.args.visited.now.planned.tree.now c.args.visited.now.planned.plan.now c.in-Some.l (c.loop-i.i - 1) c.in_ok-rests.rests.steps.items =
    record { within = heads.0; place = il; header = heads.1; places = c.in_ok-rests.ensures.places } in
    (step_inside c.requires.visited.planned body m ml).0

pub raise_lefts-requires-clause-iteration : goal.raise_lefts-requires-clause-iteration
raise_lefts-requires-clause-iteration c =
    let within = c.loop-i.invariant.within in
    let il : c.loop-i.i - 1 < length c.args.visited.now.planned.plan.now.order.items = omega arith in
    let heads = headed_loop c.requires.visited.planned (c.loop-i.i - 1) c.index-k.result.now c.in-Some.l c.index.result.now il c.index-k.ensures c.index.ensures c.in-Some.is in
    let n = c.requires.visited.solved in
    let turn = header_iteration c.in-Some.l c.requires.visited.planned.tree c.requires.visited.visits n.1 heads.0 in
    let here : (visit_at c.args.visited.now.visits.now c.index-k.result.now).iteration ≡ n.0.iteration c.in-Some.l = ap (λ k. (visit_at c.args.visited.now.visits.now k).iteration) (sym (heads.1 ∙ heads.2)) ∙ turn in
    let small : n.0.iteration c.in-Some.l ≤ 2 ^ 48 + 2 ^ 32 = iteration_small c.requires.visited.planned heads.0 c.in_ok-rests.ensures n.1 in
    omega arith

pub raise_lefts-requires-clause-small : goal.raise_lefts-requires-clause-small
raise_lefts-requires-clause-small c = λ k kl.
    left_small c.requires.visited.planned c.loop-i.left.items c.loop-i.i c.requires.visited.solved c.loop-i.invariant.size c.loop-i.invariant.lefts k kl

pub loop-i-preserved-in-Some : goal.loop-i-preserved-in-Some
loop-i-preserved-in-Some c =
    let within = c.loop-i.invariant.within in
    let il : c.loop-i.i - 1 < length c.args.visited.now.planned.plan.now.order.items = omega arith in
    let heads = headed_loop c.requires.visited.planned (c.loop-i.i - 1) c.index-k.result.now c.in-Some.l c.index.result.now il c.index-k.ensures c.index.ensures c.in-Some.is in
    let i : c.loop-i.i ≡ c.loop-i.i - 1 + 1 = omega arith in
    record {
      within = omega arith;
      size = c.raise_lefts.ensures.size ∙ c.loop-i.invariant.size;
      lefts = lefts_more c.requires.visited.planned c.loop-i.left.items c.raise_lefts.new.left.items (c.loop-i.i - 1) (visit_at c.args.visited.now.visits.now c.index-k.result.now).iteration il heads.0 heads.1 c.in_ok-rests.ensures
          (λ n s. ap (λ k. (visit_at c.args.visited.now.visits.now k).iteration) (sym (heads.1 ∙ heads.2)) ∙ header_iteration c.in-Some.l c.requires.visited.planned.tree c.requires.visited.visits s heads.0)
          (rw heads.2 (record { higher = c.raise_lefts.ensures.higher; over = c.raise_lefts.ensures.over; either = c.raise_lefts.ensures.either }))
          (subst (λ j. AreLeftsTo c.args.visited.now.planned.graph.now c.args.visited.now.planned.tree.now (by_edge c.args.visited.now.planned.weights.now) c.args.visited.now.planned.plan.now j c.loop-i.left.items) i c.loop-i.invariant.lefts);
    }

pub loop-i-preserved : goal.loop-i-preserved
loop-i-preserved c =
    let within = c.loop-i.invariant.within in
    let il : c.loop-i.i - 1 < length c.args.visited.now.planned.plan.now.order.items = omega arith in
    let i : c.loop-i.i ≡ c.loop-i.i - 1 + 1 = omega arith in
    record {
      within = omega arith;
      size = c.loop-i.invariant.size;
      lefts = lefts_on c.requires.visited.planned c.loop-i.left.items (c.loop-i.i - 1) il
          (unheaded c.requires.visited.planned (c.loop-i.i - 1) c.index-k.result.now c.index.result.now il c.index-k.ensures c.index.ensures c.in_default.not-Some)
          (subst (λ j. AreLeftsTo c.args.visited.now.planned.graph.now c.args.visited.now.planned.tree.now (by_edge c.args.visited.now.planned.weights.now) c.args.visited.now.planned.plan.now j c.loop-i.left.items) i c.loop-i.invariant.lefts);
    }

pub returns : goal.returns
returns c =
    let zero : c.loop-i.i ≡ 0 = omega arith in
    lefts_last c.args.visited.now.planned.graph.now c.args.visited.now.planned.tree.now (by_edge c.args.visited.now.planned.weights.now) c.args.visited.now.planned.plan.now c.loop-i.left.items c.loop-i.invariant.size
    (subst (λ i. AreLeftsTo c.args.visited.now.planned.graph.now c.args.visited.now.planned.tree.now (by_edge c.args.visited.now.planned.weights.now) c.args.visited.now.planned.plan.now i c.loop-i.left.items) zero c.loop-i.invariant.lefts)

pub index-requires : goal.index-requires
index-requires c =
    let within = c.loop-i.invariant.within in
    let il : c.loop-i.i - 1 < length c.args.visited.now.planned.plan.now.order.items = omega arith in
    let node : number_in_place c.args.visited.now.planned.plan.now.order.items (c.loop-i.i - 1) ≡ c.index-k.result.now = value_at c.args.visited.now.planned.plan.now.order.items (c.loop-i.i - 1) c.index-k.result.now 0 il c.index-k.ensures in
    let low : c.index-k.result.now < length c.args.visited.now.planned.graph.now.code.nodes = subst (λ k. k < length c.args.visited.now.planned.graph.now.code.nodes) node (c.requires.visited.planned.plan.order.within (c.loop-i.i - 1) il) in
    let there : c.index-k.result.now < length c.args.visited.now.planned.plan.now.headed.items = subst (λ n. c.index-k.result.now < n) (sym c.requires.visited.planned.plan.headed_size) low in
    omega arith

pub bounds-visited-k : goal.bounds-visited-k
bounds-visited-k c =
    let within = c.loop-i.invariant.within in
    let il : c.loop-i.i - 1 < length c.args.visited.now.planned.plan.now.order.items = omega arith in
    let node : number_in_place c.args.visited.now.planned.plan.now.order.items (c.loop-i.i - 1) ≡ c.index-k.result.now = value_at c.args.visited.now.planned.plan.now.order.items (c.loop-i.i - 1) c.index-k.result.now 0 il c.index-k.ensures in
    let low : c.index-k.result.now < length c.args.visited.now.planned.graph.now.code.nodes = subst (λ k. k < length c.args.visited.now.planned.graph.now.code.nodes) node (c.requires.visited.planned.plan.order.within (c.loop-i.i - 1) il) in
    subst (λ n. c.index-k.result.now < n) (sym c.requires.visited.visits.table.size) low

pub raise_lefts-requires-clause-header : goal.raise_lefts-requires-clause-header
raise_lefts-requires-clause-header c =
    let within = c.loop-i.invariant.within in
    let il : c.loop-i.i - 1 < length c.args.visited.now.planned.plan.now.order.items = omega arith in
    let node : number_in_place c.args.visited.now.planned.plan.now.order.items (c.loop-i.i - 1) ≡ c.index-k.result.now = value_at c.args.visited.now.planned.plan.now.order.items (c.loop-i.i - 1) c.index-k.result.now 0 il c.index-k.ensures in
    let low : c.index-k.result.now < length c.args.visited.now.planned.graph.now.code.nodes = subst (λ k. k < length c.args.visited.now.planned.graph.now.code.nodes) node (c.requires.visited.planned.plan.order.within (c.loop-i.i - 1) il) in
    subst (λ n. c.index-k.result.now < n) (sym c.loop-i.invariant.size) low
