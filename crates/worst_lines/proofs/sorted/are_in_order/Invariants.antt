use Rattle.std.proofs.Common.{◌≡◌, ℕ, ◌+◌, ◌<◌, slice_get, Some}
use Rattle.worst_lines.specs.declared.shown.Line.{Line}
use Rattle.worst_lines.specs.Lines.{IsBefore}
use Rattle.worst_lines.proofs.sorted.are_in_order.Given as goal

abbrev pub invariant-loop-i : goal.invariant-loop-i
invariant-loop-i l = (j : ℕ) → j < l.i → (a b : Line) → slice_get l.lines j ≡ Some a → slice_get l.lines (j + 1) ≡ Some b → IsBefore a b
