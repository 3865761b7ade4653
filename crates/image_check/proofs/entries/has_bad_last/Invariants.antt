use Rattle.std.proofs.Common.{ℕ, ◌<◌}
use Rattle.image_check.specs.Entries.{IsBadLast}
use Rattle.image_check.proofs.entries.has_bad_last.Given as goal

abbrev pub invariant-loop-entry : goal.invariant-loop-entry
invariant-loop-entry l = (j : ℕ) → j < l.entry → IsBadLast l.power l.exit l.start l.places l.i j → ⊥
