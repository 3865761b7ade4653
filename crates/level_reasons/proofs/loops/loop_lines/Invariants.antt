use Rattle.std.specs.List.{range_with_len}
use Rattle.level_reasons.specs.Kept.{HoldsNumbers}
use Rattle.level_reasons.specs.Reasons.{ProgramNumbers, AreLinesOf, IsLoopLine}
use Rattle.level_reasons.proofs.loops.loop_lines.Given as goal

abbrev pub invariant-loop-l : goal.invariant-loop-l
invariant-loop-l l =
    (n : ProgramNumbers) → HoldsNumbers l.program n → AreLinesOf (IsLoopLine l.program.power.now l.program.graph.now l.program.tree.now n l.program.start) (range_with_len 0 l.l) l.lines.items
