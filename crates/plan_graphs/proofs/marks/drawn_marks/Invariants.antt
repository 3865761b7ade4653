use Rattle.std.proofs.Common.{◌≡◌, map, take}
use Rattle.plan_graphs.specs.Drawn.{drawn_mark}
use Rattle.plan_graphs.proofs.marks.drawn_marks.Given as goal

abbrev pub invariant-loop-mark : goal.invariant-loop-mark
invariant-loop-mark l = l.drawn.items ≡ map (drawn_mark l.counters) (take l.mark-index l.marks)
