use Rattle.std.proofs.Common.{take}
use Rattle.foreign_scan.specs.Form.{Hold}
use Rattle.foreign_scan.proofs.reading.holds.Given as goal

abbrev pub invariant-loop-k : goal.invariant-loop-k
invariant-loop-k l = Hold l.key l.at (take l.k l.code)
