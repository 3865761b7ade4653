use Rattle.std.proofs.Common.{arith}
use Rattle.std.proofs.lemmas.List.{get_or_default}
use Rattle.version_loops.proofs.files.are_bytes.Goals as goal

pub returns : goal.returns
returns c = λ k d lt. let fit = c.type_inv.file k in let same = get_or_default c.args.file.now k d 0 lt in omega (arith, fit, same)
