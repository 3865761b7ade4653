use Rattle.std.proofs.Common.{◌≡◌, ◌*◌, ◌+◌, ◌^◌, ◌≤◌, ap, ◌∙◌, subst, sym, arith}
use Rattle.pace_fit.specs.Endings.{is_counted}
use Rattle.pace_fit.specs.Least.{least_energy}
use Rattle.pace_fit.proofs.Rates.{least_all, least_in, small_more}
use Rattle.pace_fit.proofs.bounds.least_over.Goals as goal

pub loop-ending-preserved : goal.loop-ending-preserved
loop-ending-preserved c = record {
  sum = least_in (λ ending. least_energy c.args.power.now ending.cycles) is_counted c.args.endings.now c.loop-ending.ending-index _ c.loop-ending.energy c.least_of-energy.result c.loop-ending-test.true c.least_of-energy.ensures.least c.loop-ending.invariant.sum;
  small = small_more c.loop-ending.ending-index c.loop-ending.energy c.least_of-energy.result c.loop-ending.invariant.small c.least_of-energy.ensures.small;
}

pub returns : goal.returns
returns c = least_all (λ ending. least_energy c.args.power.now ending.cycles) is_counted c.args.endings.now c.loop-ending.ending-index c.loop-ending.energy c.loop-ending-test.false c.loop-ending.invariant.sum
