use Rattle.std.proofs.Common.{ℕ, ◌<◌, ◌≡◌, Some, length}
use Rattle.std.specs.Prelude.{slice_get}
use Rattle.copy_bounds.specs.Meanings.{meaning}
use Rattle.copy_checks.specs.declared.tables.Meant.{Meant}
use Rattle.copy_checks.specs.Checked.{IsMeant}
use Rattle.copy_checks.proofs.meanings.meanings_of.Given as goal

abbrev pub invariant-loop-k : goal.invariant-loop-k
invariant-loop-k l = (length l.made.items ≡ l.k) × ((k a : ℕ) → k < l.k → slice_get l.graph.code.nodes k ≡ Some a → (x : Meant) × (slice_get l.made.items k ≡ Some x) × IsMeant (meaning l.copied.pieces.now l.copied.sites.now l.copied.base) a x)
