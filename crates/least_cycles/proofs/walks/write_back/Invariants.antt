use Rattle.least_cycles.specs.Tables.{AreWritten}
use Rattle.least_cycles.proofs.walks.write_back.Given as goal

abbrev pub invariant-loop-i : goal.invariant-loop-i
invariant-loop-i l = AreWritten l.i l.bucket l.found l.fn.table.items l.table.items
