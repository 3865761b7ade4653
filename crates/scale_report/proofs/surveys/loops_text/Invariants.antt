use Rattle.std.proofs.Common.{◌≡◌, take, string_bytes}
use Rattle.scale_report.specs.Texts.{numbered_lines, most_line}
use Rattle.scale_report.proofs.surveys.loops_text.Given as goal

abbrev pub invariant-loop-index : goal.invariant-loop-index
invariant-loop-index l = string_bytes l.text ≡ numbered_lines most_line 1 (take l.index l.most)
