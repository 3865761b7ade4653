use Rattle.std.proofs.Common.{◌≡◌, take}
use Rattle.std.specs.List.{sum_by}
use Rattle.worst_lines.specs.declared.shown.Line.{Line}
use Rattle.worst_lines.proofs.sorted.own_sum.Given as goal

abbrev pub invariant-loop-line : goal.invariant-loop-line
invariant-loop-line l = l.sum ≡ sum_by (λ (line : Line). line.own) (take l.line-index l.lines)
