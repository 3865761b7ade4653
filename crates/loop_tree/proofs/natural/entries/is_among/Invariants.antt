use Rattle.std.proofs.Common.{◌≡◌, ℕ, ◌<◌, Some}
use Rattle.std.specs.Prelude.{slice_get}
use Rattle.loop_tree.proofs.natural.entries.is_among.Given as goal

abbrev pub invariant-loop-other : goal.invariant-loop-other
invariant-loop-other l = (p : ℕ) → p < l.other-index → slice_get l.nodes p ≡ Some l.node → ⊥
