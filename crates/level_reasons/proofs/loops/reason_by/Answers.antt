use Rattle.std.proofs.Common.{◌≡◌, ◌+◌, ◌*◌, ◌<◌, slice_index, refl, sym, ap, ◌∙◌, subst, arith}
use Rattle.std.proofs.lemmas.Option.{get_or_from_slice_get, same_Some}
use Rattle.power_model.specs.Levels.{level}
use Rattle.level_reasons.specs.Reasons.{IsWayOut, percent_down, percent_up}
use Rattle.level_reasons.specs.Ways.{AreTurnsFor}
use Rattle.level_reasons.proofs.LoopFacts.{needs_turns, never_enough}
use Rattle.level_reasons.proofs.loops.reason_by.Goals as goal

pub returns-in-Some : goal.returns-in-Some
returns-in-Some c = λ n holds kept.
    let power = c.args.program.now.power.now in
    let bounds = c.args.program.now.tree.now.bounds in
    let low = c.requires.program.power.positive c.args.program.now.start c.requires.program.start in
    let pos : 0 < (level power.levels c.args.program.now.start).period = omega (arith, low.0) in
    let bound : c.bound-bound.result ≡ slice_index bounds c.args.l = sym (get_or_from_slice_get bounds c.args.l c.bound-bound.result 0 c.bound-bound.ensures) in
    let turn : c.iteration-turn.result ≡ n.turn c.args.l = same_Some c.iteration-turn.result (n.turn c.args.l) (sym c.iteration-turn.ensures ∙ holds.turn c.args.l c.requires.within) in
    needs_turns power c.args.program.now.start n.told (IsWayOut c.args.program.now.graph.now c.args.program.now.tree.now c.args.l) pos c.requires.above c.args.way kept (slice_index bounds c.args.l) (n.turn c.args.l) c.in-Some.needed c.bound-bound.result bound
    (subst (λ b. AreTurnsFor c.args.way.lack (n.turn c.args.l) b c.in-Some.needed) bound (subst (λ x. AreTurnsFor c.args.way.lack x c.bound-bound.result c.in-Some.needed) turn c.in-Some.ensures.some))

pub returns-in-None : goal.returns-in-None
returns-in-None c = λ n holds kept.
    let power = c.args.program.now.power.now in
    let bounds = c.args.program.now.tree.now.bounds in
    let low = c.requires.program.power.positive c.args.program.now.start c.requires.program.start in
    let pos : 0 < (level power.levels c.args.program.now.start).period = omega (arith, low.0) in
    let bound : c.bound-bound.result ≡ slice_index bounds c.args.l = sym (get_or_from_slice_get bounds c.args.l c.bound-bound.result 0 c.bound-bound.ensures) in
    let turn : c.iteration-turn.result ≡ n.turn c.args.l = same_Some c.iteration-turn.result (n.turn c.args.l) (sym c.iteration-turn.ensures ∙ holds.turn c.args.l c.requires.within) in
    let all : c.bound-bound.result * c.iteration-turn.result ≡ slice_index bounds c.args.l * n.turn c.args.l = cc in
    let few : slice_index bounds c.args.l * n.turn c.args.l < c.args.way.lack = subst (λ x. x < c.args.way.lack) all (c.in-None.ensures.none refl) in
    let gives : c.from.result + c.from-in-None.result * c.from-in-None-2.result ≡ c.args.way.slack + slice_index bounds c.args.l * n.turn c.args.l = cc in
    never_enough power c.args.program.now.start n.told (IsWayOut c.args.program.now.graph.now c.args.program.now.tree.now c.args.l) pos c.requires.above c.args.way kept (slice_index bounds c.args.l) (n.turn c.args.l) c.bound-bound.result c.percent_down.result c.percent_up.result bound few
    (c.percent_down.ensures ∙ ap (λ x. percent_down x c.args.way.left) gives)
    (c.percent_up.ensures ∙ ap (λ x. percent_up (x + c.args.way.lack) c.args.way.left) c.from-in-None-3.ensures)
