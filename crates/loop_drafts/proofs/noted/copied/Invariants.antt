use Rattle.std.proofs.Common.{◌≡◌, take}
use Rattle.loop_drafts.proofs.noted.copied.Given as goal

abbrev pub invariant-loop-k : goal.invariant-loop-k
invariant-loop-k l = l.items.items ≡ take l.k l.ranges
