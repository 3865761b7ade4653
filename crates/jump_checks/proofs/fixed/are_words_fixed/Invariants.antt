use Rattle.std.proofs.Common.{◌≡◌, ℕ, ◌<◌, Some}
use Rattle.std.specs.Prelude.{slice_get}
use Rattle.jump_laws.specs.declared.reads.TableRead.{TableRead}
use Rattle.jump_checks.specs.Claimed.{AreFixed}
use Rattle.jump_checks.proofs.fixed.are_words_fixed.Given as goal

abbrev pub invariant-loop-k : goal.invariant-loop-k
invariant-loop-k l = (k : ℕ) (x : TableRead) → k < l.k → slice_get l.claim.reads.now k ≡ Some (Some x) → AreFixed l.claim.claim.now.view.now x.table
