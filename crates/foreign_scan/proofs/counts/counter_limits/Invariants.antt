use Rattle.std.proofs.Common.{◌≡◌, take, map}
use Rattle.foreign_scan.specs.Counts.{limit_of}
use Rattle.foreign_scan.proofs.counts.counter_limits.Given as goal

abbrev pub invariant-loop-first : goal.invariant-loop-first
invariant-loop-first l = l.limits.items ≡ map (limit_of l.lists.backs.now l.lists.bounds.now) (take l.first-index l.first-items)
