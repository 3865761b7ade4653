use Rattle.std.proofs.Common.{◌≤◌, ◌*◌, ◌+◌, ◌^◌, arith}
use Rattle.run_pictures.proofs.BarLoops.{hatched-more, hatched-all}
use Rattle.run_pictures.proofs.bars.hatched_bars.Goals as goal

pub loop-end-preserved : goal.loop-end-preserved
loop-end-preserved c =
    let small = c.loop-end.invariant.small in
    let few = c.hatched_in-more.ensures.small in
    record {
      sum = hatched-more _ c.args.ends.now c.loop-end.end-index _ _ _ _ c.loop-end-test.true c.hatched_in-more.ensures.is c.loop-end.invariant.sum;
      small = omega (arith, small, few);
    }

pub returns : goal.returns
returns c = hatched-all c.loop-end.begin c.args.ends.now c.loop-end.end-index _ _ c.loop-end-test.false c.loop-end.invariant.sum
