use Rattle.std.proofs.Common.{◌<◌, length, refl, sym, ◌∙◌, arith}
use Rattle.graph_algorithms.specs.Nesting.{bodies_of}
use Rattle.worst_walks.proofs.Passes.{lists_more, list_of}
use Rattle.worst_walks.proofs.taken.take_lists.Goals as goal

pub loop-l-preserved : goal.loop-l-preserved
loop-l-preserved c =
    let low : c.loop-l.l < length c.args.lists.now = omega arith in
    record {
      size = c.take_list.ensures.size ∙ c.loop-l.invariant.size;
      taken = lists_more (bodies_of c.args.lists.now) c.args.times.now c.args.taken.now.items c.loop-l.taken.items c.take_list.new.taken.items c.deref.result.now c.loop-l.l _
          (list_of c.args.lists.now c.loop-l.l c.index-lists-l.result low c.index-lists-l.is ∙ sym c.deref.ensures.value) refl
          (c.take_list.ensures.taken c.if-not-take_list.false) c.loop-l.invariant.taken;
    }
