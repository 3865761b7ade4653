use Rattle.std.proofs.Common.{◌≡◌, ℕ, ◌<◌, Some}
use Rattle.std.specs.Prelude.{slice_get}
use Rattle.shown_bounds.specs.Returned.{IsLinkedAt}
use Rattle.shown_bounds.proofs.returning.are_linked.Given as goal

abbrev pub invariant-loop-k : goal.invariant-loop-k
invariant-loop-k l = (k a : ℕ) → k < l.k → slice_get l.claim.graph.now.code.nodes k ≡ Some a → IsLinkedAt l.claim a l.first
