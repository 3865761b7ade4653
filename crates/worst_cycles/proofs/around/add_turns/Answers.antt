use Rattle.std.proofs.Common.{◌≡◌, ◌+◌, ◌<◌, length, ◌∙◌, arith}
use Rattle.std.proofs.lemmas.List.{length-set}
use Rattle.graph_algorithms.specs.Arcs.{number_in_place}
use Rattle.worst_cycles.proofs.SearchLaws.{value_at}
use Rattle.worst_cycles.proofs.TableLaws.{turn_added, turn_beside}
use Rattle.worst_cycles.proofs.around.add_turns.Goals as goal

pub loop-k-preserved : goal.loop-k-preserved
loop-k-preserved c =
    let size = c.loop-k.invariant.size in
    let within = c.requires.within c.loop-k.k-index c.loop-k-test.true in
    let room : number_in_place c.args.body.now c.loop-k.k-index < length c.loop-k.around.items = omega arith in
    record {
      size = length-set c.loop-k.around.items (number_in_place c.args.body.now c.loop-k.k-index) (c.index_mut.result.now + c.args.turns) ∙ size;
      inside = turn_added c.args.body.now c.args.around.now.items c.loop-k.around.items c.loop-k.k-index c.index_mut.result.now c.args.turns c.requires.distinct c.loop-k-test.true room
          (value_at c.loop-k.around.items (number_in_place c.args.body.now c.loop-k.k-index) c.index_mut.result.now 0 room c.index_mut.ensures.value) c.loop-k.invariant.inside c.loop-k.invariant.outside;
      outside = turn_beside c.args.body.now c.args.around.now.items c.loop-k.around.items c.loop-k.k-index (c.index_mut.result.now + c.args.turns) c.loop-k.invariant.outside;
    }

pub bounds-body-k-index : goal.bounds-body-k-index
bounds-body-k-index c = c.loop-k-test.true

pub overflow_add-index_mut : goal.overflow_add-index_mut
overflow_add-index_mut c =
    let size = c.loop-k.invariant.size in
    let within = c.requires.within c.loop-k.k-index c.loop-k-test.true in
    let room : number_in_place c.args.body.now c.loop-k.k-index < length c.loop-k.around.items = omega arith in
    let value = value_at c.loop-k.around.items (number_in_place c.args.body.now c.loop-k.k-index) c.index_mut.result.now 0 room c.index_mut.ensures.value in
    let old = c.loop-k.invariant.outside (number_in_place c.args.body.now c.loop-k.k-index) (λ i il. c.requires.distinct i c.loop-k.k-index il c.loop-k-test.true) in
    let small = c.requires.small (number_in_place c.args.body.now c.loop-k.k-index) in
    let turns = c.requires.turns in
    omega arith
