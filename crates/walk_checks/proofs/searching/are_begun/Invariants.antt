use Rattle.std.proofs.Common.{ℕ, ◌<◌, ◌+◌, ◌*◌, ◌%◌, ◌^◌}
use Rattle.walk_checks.specs.Walked.{IsBegunAt}
use Rattle.walk_checks.proofs.searching.are_begun.Given as goal

abbrev pub invariant-loop-n : goal.invariant-loop-n
invariant-loop-n l = (j : ℕ) → j < l.n → IsBegunAt l.search.parts.now l.search.sought l.search.ground.now ((l.first.low + l.first.stride * j) % 2 ^ 32)
