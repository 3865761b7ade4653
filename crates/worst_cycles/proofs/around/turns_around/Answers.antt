use Rattle.std.proofs.Common.{◌≡◌, ℕ, ◌+◌, ◌*◌, ◌^◌, ◌<◌, ◌≤◌, length, arith, sym, ap, ◌∙◌, subst}
use Rattle.std.proofs.lemmas.Grind.{common_steps}
use Rattle.std.proofs.lemmas.Option.{get_or_from_slice_get}
use Rattle.graph_algorithms.specs.Arcs.{number_in_place, AreDistinct}
use Rattle.cost_theory.specs.Lists.{body_of}
use Rattle.worst_cycles.specs.Worst.{by_edge}
use Rattle.worst_cycles.specs.Visits.{visit_at}
use Rattle.worst_cycles.proofs.IterationLaws.{body_within}
use Rattle.worst_cycles.proofs.AroundLaws.{turns_at_header, turns_more, turns_last, turns_small, body_distinct}
use Rattle.worst_cycles.proofs.around.turns_around.Goals as goal

pub loop-l-preserved : goal.loop-l-preserved
loop-l-preserved c =
    let ll : c.loop-l.l < length c.args.visited.now.planned.tree.now.headers = omega arith in
    let header : number_in_place c.args.visited.now.planned.tree.now.headers c.loop-l.l ≡ c.header.result = get_or_from_slice_get c.args.visited.now.planned.tree.now.headers c.loop-l.l c.header.result 0 c.header.ensures in
    let inside = subst (λ xs. (i : ℕ) → i < length xs → number_in_place c.add_turns.new.around.items (number_in_place xs i) ≡ number_in_place c.loop-l.around.items (number_in_place xs i) + (visit_at c.args.visited.now.visits.now c.header.result).turns) c.body.ensures c.add_turns.ensures.inside in
    let outside = subst (λ xs. (k : ℕ) → ((i : ℕ) → i < length xs → number_in_place xs i ≡ k → ⊥) → number_in_place c.add_turns.new.around.items k ≡ number_in_place c.loop-l.around.items k) c.body.ensures c.add_turns.ensures.outside in
    let room : (visit_at c.args.visited.now.visits.now c.header.result).turns ≤ 2 ^ 48 = (c.requires.visited.visits.table.small c.header.result).turns in
    record {
      size = c.add_turns.ensures.size ∙ c.loop-l.invariant.size;
      small = λ k. let low = turns_small c.loop-l.around.items c.add_turns.new.around.items (body_of c.args.visited.now.planned.tree.now.bodies c.loop-l.l) (c.loop-l.l * 2 ^ 48) (visit_at c.args.visited.now.visits.now c.header.result).turns (2 ^ 48) inside outside c.loop-l.invariant.small room k in omega arith;
      turns = turns_more c.requires.visited.planned c.loop-l.l (visit_at c.args.visited.now.visits.now c.header.result).turns c.loop-l.around.items c.add_turns.new.around.items ll
          (λ n s. ap (λ k. (visit_at c.args.visited.now.visits.now k).turns) (sym header) ∙ turns_at_header c.loop-l.l c.requires.visited.planned.tree c.requires.visited.visits s ll) inside outside c.loop-l.invariant.turns;
    }

pub returns : goal.returns
returns c =
    let last : c.loop-l.l ≡ length c.args.visited.now.planned.tree.now.headers = omega arith in
    turns_last c.args.visited.now.planned.graph.now c.args.visited.now.planned.tree.now (by_edge c.args.visited.now.planned.weights.now) c.loop-l.around.items c.loop-l.l last c.loop-l.invariant.size c.loop-l.invariant.turns

pub bounds-visited-header : goal.bounds-visited-header
bounds-visited-header c =
    let size = c.requires.visited.visits.table.size in
    let low : c.header.result < length c.args.visited.now.planned.graph.now.code.nodes = c.requires.visited.planned.tree.1.header c.loop-l.l c.header.result c.header.ensures in
    subst (λ n. c.header.result < n) (sym size) low

pub add_turns-requires-clause-within : goal.add_turns-requires-clause-within
add_turns-requires-clause-within c =
    let ll : c.loop-l.l < length c.args.visited.now.planned.tree.now.headers = omega arith in
    let size : length c.loop-l.around.items ≡ length c.args.visited.now.planned.graph.now.code.nodes = c.loop-l.invariant.size in
    subst (λ xs. (i : ℕ) → i < length xs → number_in_place xs i < length c.loop-l.around.items) (sym c.body.ensures)
    (λ i il. subst (λ n. number_in_place (body_of c.args.visited.now.planned.tree.now.bodies c.loop-l.l) i < n) (sym size) (body_within c.args.visited.now.planned.graph.now c.args.visited.now.planned.tree.now c.requires.visited.planned.tree.0 c.requires.visited.planned.tree.1 c.loop-l.l i ll il))

pub add_turns-requires-clause-distinct : goal.add_turns-requires-clause-distinct
add_turns-requires-clause-distinct c =
    let ll : c.loop-l.l < length c.args.visited.now.planned.tree.now.headers = omega arith in
    subst AreDistinct (sym c.body.ensures) (body_distinct c.args.visited.now.planned.graph.now c.args.visited.now.planned.tree.now c.requires.visited.planned.tree.0 c.requires.visited.planned.tree.1 c.loop-l.l ll)

pub loop-l-init : goal.loop-l-init
loop-l-init c = grind (arith, common_steps)
