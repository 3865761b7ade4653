use Rattle.foreign_scan.specs.Least.{IsLeastBadOf, IsInRanges, is_bad_word}
use Rattle.foreign_scan.proofs.patches.bad_patch_among.Given as goal

abbrev pub invariant-loop-range : goal.invariant-loop-range
invariant-loop-range l = IsLeastBadOf (is_bad_word l.original l.foreign l.nodes) (IsInRanges l.ranges l.range-index) l.least
