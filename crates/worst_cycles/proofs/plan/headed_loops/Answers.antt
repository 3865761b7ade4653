use Rattle.std.proofs.Common.{arith}
use Rattle.std.proofs.lemmas.Grind.{common_steps}
use Rattle.worst_cycles.proofs.plan.headed_loops.Goals as goal

pub loop-l-init : goal.loop-l-init
loop-l-init c = grind (arith, common_steps)
