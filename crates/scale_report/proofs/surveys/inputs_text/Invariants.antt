use Rattle.std.proofs.Common.{◌≡◌, map, take, string_bytes}
use Rattle.power_model.specs.Survey.{line_view}
use Rattle.scale_report.specs.Texts.{numbered_lines, input_line}
use Rattle.scale_report.proofs.surveys.inputs_text.Given as goal

abbrev pub invariant-loop-index : goal.invariant-loop-index
invariant-loop-index l = string_bytes l.text ≡ numbered_lines input_line 1 (map line_view (take l.index l.lines))
