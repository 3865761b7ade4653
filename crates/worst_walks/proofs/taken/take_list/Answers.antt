use Rattle.std.proofs.Common.{refl, ◌∙◌}
use Rattle.worst_walks.proofs.Passes.{list_more}
use Rattle.worst_walks.proofs.taken.take_list.Goals as goal

pub loop-e-preserved : goal.loop-e-preserved
loop-e-preserved c = record {
  size = c.add.ensures.size ∙ c.loop-e.invariant.size;
  taken = list_more c.args.taken.now.items c.loop-e.taken.items c.add.new.table.items _ c.args.times c.loop-e.e-index c.args.edges.now
      c.add.ensures.size (c.add.ensures.within c.if-not-add.false) c.loop-e-test.true refl (c.add.ensures.added c.if-not-add.false) c.loop-e.invariant.taken;
}
