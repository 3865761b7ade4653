-- Where a level is in time, the fastest is too.
use Rattle.std.proofs.Common.{arith}
use Rattle.power_model.specs.Slowest.{IsInTime, fastest}
use Rattle.power_model.proofs.LevelsLemmas.{in_time-fastest}
use Rattle.power_model.proofs.power.slowest.Goals as goal
use Rattle.power_model.proofs.power.slowest.Goals.{Then-is_in_time}

timely : (c : Then-is_in_time) → IsInTime c.args.power.now c.args.worst (fastest c.args.power.now)
timely c = in_time-fastest c.args.power.now c.args.worst c.loop-i.i c.if-is_in_time.ensures.ranked (omega arith) c.if-is_in_time.ensures.in_time

pub returns-then-is_in_time-clause-some : goal.returns-then-is_in_time-clause-some
returns-then-is_in_time-clause-some c = timely c

pub returns-then-is_in_time-clause-none : goal.returns-then-is_in_time-clause-none
returns-then-is_in_time-clause-none c =
    (λ e. cc, λ slow. let enough : IsInTime c.args.power.now c.args.worst (fastest c.args.power.now) = timely c in absurd (omega arith))
