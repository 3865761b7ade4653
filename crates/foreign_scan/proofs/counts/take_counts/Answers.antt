use Rattle.std.proofs.lemmas.Option.{slice_get-get_or}
use Rattle.foreign_scan.proofs.CountLaws.{taken_more}
use Rattle.foreign_scan.proofs.counts.take_counts.Goals as goal

pub loop-fragment-preserved : goal.loop-fragment-preserved
loop-fragment-preserved c = record {
  within = c.take_count.ensures.within;
  taken = taken_more c.args.edges.now c.args.firsts.now c.loop-fragment.firsts c.take_count.new.firsts c.args.fragments.now _ c.loop-fragment.fragment-index c.args.e
      (slice_get-get_or c.args.fragments.now c.loop-fragment.fragment-index _ c.loop-fragment-test.true) c.loop-fragment.invariant.taken c.take_count.ensures.taken;
}
