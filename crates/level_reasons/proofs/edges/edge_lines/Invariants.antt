use Rattle.std.specs.List.{filter, range_with_len}
use Rattle.level_reasons.specs.Kept.{HoldsNumbers}
use Rattle.level_reasons.specs.Reasons.{ProgramNumbers, AreLinesOf, IsEdgeLine, has_line}
use Rattle.level_reasons.proofs.edges.edge_lines.Given as goal

abbrev pub invariant-loop-e : goal.invariant-loop-e
invariant-loop-e l =
    (n : ProgramNumbers) → HoldsNumbers l.program n
    → AreLinesOf (IsEdgeLine l.program.power.now l.program.graph.now n l.program.start) (filter (has_line l.program.graph.now n.told) (range_with_len 0 l.e)) l.lines.items
