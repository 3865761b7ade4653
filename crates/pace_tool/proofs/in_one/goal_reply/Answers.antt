use Rattle.std.proofs.Common.{arith}
use Rattle.std.proofs.lemmas.List.{get_or_default}
use Rattle.pace_tool.proofs.in_one.goal_reply.Goals as goal

pub returns-clause-bytes : goal.returns-clause-bytes
returns-clause-bytes g c = λ k d lt. let fit = c.type_inv.image k in let same = get_or_default c.args.image.now k d 0 lt in omega (arith, fit, same)
