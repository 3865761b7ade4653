use Rattle.std.proofs.Common.{arith}
use Rattle.std.proofs.lemmas.List.{get_or_default}
use Rattle.scale_tool.proofs.program_files.PairFiles.new.Goals as goal

pub invariant_of-result-clause-bytes : goal.invariant_of-result-clause-bytes
invariant_of-result-clause-bytes c = λ k d lt. let fit = c.type_inv.other k in let same = get_or_default c.args.other.now k d 0 lt in omega (arith, fit, same)
