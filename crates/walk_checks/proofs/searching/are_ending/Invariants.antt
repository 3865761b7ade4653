use Rattle.std.proofs.Common.{ℕ, ◌<◌, get_or}
use Rattle.bound_laws.specs.Values.{Arc}
use Rattle.walk_checks.specs.Walked.{IsEnding}
use Rattle.walk_checks.proofs.searching.are_ending.Given as goal

abbrev pub invariant-loop-x : goal.invariant-loop-x
invariant-loop-x l = (j : ℕ) (other : Arc) → j < l.x-index → IsEnding l.search.parts.now l.search.sought l.least (get_or l.search.ground.now j other)
