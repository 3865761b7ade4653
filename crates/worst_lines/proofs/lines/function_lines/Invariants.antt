use Rattle.worst_lines.specs.Kept.{AreLinesOf}
use Rattle.worst_lines.proofs.lines.function_lines.Given as goal

abbrev pub invariant-loop-f : goal.invariant-loop-f
invariant-loop-f s = AreLinesOf s.walked s.f 0 s.lines.items
