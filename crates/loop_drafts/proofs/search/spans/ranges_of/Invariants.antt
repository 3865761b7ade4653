use Rattle.std.proofs.Common.{◌≡◌, vec_len}
use Rattle.loop_drafts.proofs.search.spans.ranges_of.Given as goal

abbrev pub invariant-loop-span : goal.invariant-loop-span
invariant-loop-span l = vec_len l.ranges ≡ l.span-index
