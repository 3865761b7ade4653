use Rattle.std.proofs.Common.{◌≡◌, ◌++◌, take, string_bytes}
use Rattle.std.specs.List.{flat_map}
use Rattle.level_reasons.specs.ReasonTexts.{loop_line}
use Rattle.level_reasons.proofs.texts.push_loops.Given as goal

abbrev pub invariant-loop-line : goal.invariant-loop-line
invariant-loop-line l = string_bytes l.text ≡ string_bytes l.initial.text ++ flat_map loop_line (take l.line-index l.lines)
