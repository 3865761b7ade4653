use Rattle.std.proofs.Common.{refl, arith}
use Rattle.foreign_scan.proofs.RunOutLaws.{first_from}
use Rattle.foreign_scan.proofs.run_out.first_chooses.Goals as goal

pub returns : goal.returns
returns c = (λ _. first_from c.args.fragments.now (λ j d low lt. c.loop-k.invariant j d low (omega (arith, lt))), λ _. refl)
