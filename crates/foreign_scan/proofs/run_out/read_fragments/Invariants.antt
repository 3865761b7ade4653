use Rattle.foreign_scan.proofs.RunOutLaws.{AreRead}
use Rattle.foreign_scan.proofs.run_out.read_fragments.Given as goal

abbrev pub invariant-loop : goal.invariant-loop
invariant-loop l = AreRead l.key l.at l.fragments.items l.end l.counter
