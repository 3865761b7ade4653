use Rattle.std.proofs.Common.{◌≡◌, ◌+◌, ◌^◌, ◌≤◌, inr, None, arith, refl, ◌∙◌}
use Rattle.std.proofs.lemmas.Option.{slice_get_within, get_or_from_slice_get}
use Rattle.graph_algorithms.specs.Arcs.{number_in_place}
use Rattle.worst_cycles.specs.Worst.{by_edge}
use Rattle.worst_cycles.specs.Visits.{headed_at}
use Rattle.worst_cycles.proofs.VisitLaws.{headed_is, no_turns, turns_found, turns_too_long}
use Rattle.worst_cycles.proofs.pass.turns_at.Goals as goal

pub returns-in_default : goal.returns-in_default
returns-in_default c =
    let none : headed_at c.args.planned.now.plan.now.headed.items (number_in_place c.args.planned.now.plan.now.order.items c.args.i) ≡ None =
    headed_is c.requires.planned c.args.i c.index.result.now c.index-2.result.now c.requires.place c.index.ensures c.index-2.ensures ∙ c.in_default.is in (
      (let r : 0 ≤ 2 ^ 48 = omega arith in r),
      λ n s. (
        inr (no_turns c.requires.planned n (number_in_place c.args.planned.now.plan.now.order.items c.args.i) (c.requires.planned.plan.order.within c.args.i c.requires.place) none, refl),
        λ j jl same. absurd (no_turns c.requires.planned n (number_in_place c.args.planned.now.plan.now.order.items c.args.i) (c.requires.planned.plan.order.within c.args.i c.requires.place) none j jl same),
      ),
      (let r : 0 ≤ 2 ^ 48 + 2 ^ 32 = omega arith in r),
    )

pub iteration_of-requires-clause-within : goal.iteration_of-requires-clause-within
iteration_of-requires-clause-within c =
    slice_get_within c.args.planned.now.tree.now.headers c.in-Some.l (number_in_place c.args.planned.now.plan.now.order.items c.args.i) (c.requires.planned.plan.headed.some (number_in_place c.args.planned.now.plan.now.order.items c.args.i) c.in-Some.l
    (headed_is c.requires.planned c.args.i c.index.result.now c.index-2.result.now c.requires.place c.index.ensures c.index-2.ensures ∙ c.in-Some.is))

pub iteration_of-requires-clause-header : goal.iteration_of-requires-clause-header
iteration_of-requires-clause-header c =
    get_or_from_slice_get c.args.planned.now.tree.now.headers c.in-Some.l (number_in_place c.args.planned.now.plan.now.order.items c.args.i) 0 (c.requires.planned.plan.headed.some (number_in_place c.args.planned.now.plan.now.order.items c.args.i) c.in-Some.l
    (headed_is c.requires.planned c.args.i c.index.result.now c.index-2.result.now c.requires.place c.index.ensures c.index-2.ensures ∙ c.in-Some.is))

pub bound-requires : goal.bound-requires
bound-requires c =
    slice_get_within c.args.planned.now.tree.now.headers c.in-Some.l (number_in_place c.args.planned.now.plan.now.order.items c.args.i) (c.requires.planned.plan.headed.some (number_in_place c.args.planned.now.plan.now.order.items c.args.i) c.in-Some.l
    (headed_is c.requires.planned c.args.i c.index.result.now c.index-2.result.now c.requires.place c.index.ensures c.index-2.ensures ∙ c.in-Some.is))

pub returns-in-Some-all_turns : goal.returns-in-Some-all_turns
returns-in-Some-all_turns c =
    let turns = c.all_turns.ensures.some c.in-Some-all_turns.turns c.in-Some-all_turns.is in
    let header = c.requires.planned.plan.headed.some (number_in_place c.args.planned.now.plan.now.order.items c.args.i) c.in-Some.l
    (headed_is c.requires.planned c.args.i c.index.result.now c.index-2.result.now c.requires.place c.index.ensures c.index-2.ensures ∙ c.in-Some.is) in (
      turns.1,
      turns_found c.args.planned.now.graph.now c.args.planned.now.tree.now c.in-Some.l (number_in_place c.args.planned.now.plan.now.order.items c.args.i) c.bound.result c.in_ok-iteration.iteration c.in-Some-all_turns.turns header c.bound.ensures turns.0 c.in_ok-iteration.ensures.1,
      c.in_ok-iteration.ensures.0,
    )

pub returns-in-None : goal.returns-in-None
returns-in-None c =
    let more = c.all_turns.ensures.none c.in-None.is in
    let within = slice_get_within c.args.planned.now.tree.now.headers c.in-Some.l (number_in_place c.args.planned.now.plan.now.order.items c.args.i) (c.requires.planned.plan.headed.some (number_in_place c.args.planned.now.plan.now.order.items c.args.i) c.in-Some.l
    (headed_is c.requires.planned c.args.i c.index.result.now c.index-2.result.now c.requires.place c.index.ensures c.index-2.ensures ∙ c.in-Some.is)) in (
      refl,
      turns_too_long c.args.planned.now.graph.now c.args.planned.now.tree.now (by_edge c.args.planned.now.weights.now) c.in-Some.l c.bound.result c.in_ok-iteration.iteration within c.bound.ensures c.in_ok-iteration.ensures.1 more,
    )
