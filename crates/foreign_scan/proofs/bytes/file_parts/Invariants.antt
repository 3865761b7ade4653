use Rattle.std.proofs.Common.{◌≡◌, take, map}
use Rattle.foreign_scan.specs.Least.{file_range}
use Rattle.foreign_scan.proofs.bytes.file_parts.Given as goal

abbrev pub invariant-loop-k : goal.invariant-loop-k
invariant-loop-k l = l.parts.items ≡ map file_range (take l.k l.view.segments)
