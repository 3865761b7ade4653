use Rattle.std.proofs.Common.{◌≡◌, map, take, Some}
use Rattle.paced_images.specs.Wanted.{header_tallied}
use Rattle.paced_images.proofs.wanted.tallied_flags.Given as goal

abbrev pub invariant-loop-k : goal.invariant-loop-k
invariant-loop-k l = l.flags.items ≡ map (λ k. header_tallied l.graph l.tree l.tallied (Some k)) (take l.k l.counters)
