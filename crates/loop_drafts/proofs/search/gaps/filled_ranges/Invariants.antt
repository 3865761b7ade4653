use Rattle.std.proofs.Common.{◌≡◌, vec_len}
use Rattle.loop_drafts.proofs.search.gaps.filled_ranges.Given as goal

abbrev pub invariant-loop-gap : goal.invariant-loop-gap
invariant-loop-gap l = vec_len l.filled ≡ vec_len l.ranges
