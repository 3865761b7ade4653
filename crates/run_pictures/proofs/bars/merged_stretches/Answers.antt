use Rattle.std.proofs.Common.{◌≤◌, ◌*◌, ◌+◌, ◌^◌, arith}
use Rattle.run_pictures.proofs.BarLoops.{merged-more, merged-all}
use Rattle.run_pictures.proofs.bars.merged_stretches.Goals as goal

pub loop-end-preserved : goal.loop-end-preserved
loop-end-preserved c =
    let small = c.loop-end.invariant.small in
    let few = c.merged_in-more.ensures.small in
    record {
      sum = merged-more _ c.args.ends.now c.loop-end.end-index _ _ _ _ c.loop-end-test.true c.merged_in-more.ensures.is c.loop-end.invariant.sum;
      small = omega (arith, small, few);
    }

pub returns : goal.returns
returns c = merged-all c.loop-end.begin c.args.ends.now c.loop-end.end-index _ _ c.loop-end-test.false c.loop-end.invariant.sum
