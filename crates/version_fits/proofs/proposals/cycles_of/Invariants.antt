use Rattle.std.proofs.Common.{◌≡◌, length}
use Rattle.version_fits.proofs.proposals.cycles_of.Given as goal

abbrev pub invariant-loop-ending : goal.invariant-loop-ending
invariant-loop-ending l = length l.cycles.items ≡ l.ending-index
