use Rattle.std.proofs.Common.{ℕ}
use Rattle.worst_lines.specs.Kept.{AreLinesOf}
use Rattle.worst_lines.proofs.lines.push_loops.Given as goal

abbrev pub invariant-loop-l : goal.invariant-loop-l
invariant-loop-l s = (n : ℕ) → AreLinesOf s.walked n 0 s.initial.lines.items → AreLinesOf s.walked n s.l s.lines.items
