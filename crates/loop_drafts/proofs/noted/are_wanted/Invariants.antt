use Rattle.std.proofs.Common.{ℕ, ◌≡◌, ◌<◌, slice_get}
use Rattle.loop_drafts.proofs.noted.are_wanted.Given as goal

abbrev pub invariant-loop-k : goal.invariant-loop-k
invariant-loop-k l = (i : ℕ) → i < l.k → slice_get l.notes i ≡ slice_get l.wanted i
