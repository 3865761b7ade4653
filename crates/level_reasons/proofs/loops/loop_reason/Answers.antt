use Rattle.std.proofs.Common.{◌<◌, arith}
use Rattle.level_reasons.proofs.loops.loop_reason.Goals as goal

pub returns-in-None : goal.returns-in-None
returns-in-None c = λ n holds. ((let h : 0 < c.args.program.now.start = omega arith in h), c.in-None.ensures.nearest n holds)
