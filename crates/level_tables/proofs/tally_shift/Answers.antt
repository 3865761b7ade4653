use Rattle.std.proofs.Common.{◌≤◌, ◌/◌, ◌^◌, arith}
use Rattle.level_tables.proofs.Shifts.{tally_shift-is}
use Rattle.level_tables.proofs.tally_shift.Goals as goal

pub returns-then-bound-s-le2045-clause-shift : goal.returns-then-bound-s-le2045-clause-shift
returns-then-bound-s-le2045-clause-shift c = tally_shift-is c.args.bound c.loop-s.s (omega arith) c.if-bound-s-le2045.true c.loop-s.invariant.above

pub returns-clause-shift : goal.returns-clause-shift
returns-clause-shift c =
    let small : c.args.bound / 2 ^ 22 ≤ 2045 = omega arith in
    tally_shift-is c.args.bound 22 (omega arith) small (λ k h. c.loop-s.invariant.above k (omega arith))
