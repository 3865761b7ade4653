use Rattle.foreign_scan.specs.Least.{IsLeastBadOf, IsInRanges, is_odd_byte}
use Rattle.foreign_scan.proofs.bytes.odd_among.Given as goal

abbrev pub invariant-loop-range : goal.invariant-loop-range
invariant-loop-range l = IsLeastBadOf (is_odd_byte l.original l.foreign) (IsInRanges l.ranges l.range-index) l.least
