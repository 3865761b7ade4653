use Rattle.std.proofs.Common.{◌≡◌, ◌++◌, take, string_bytes}
use Rattle.scale_report.specs.Texts.{numbered_lines}
use Rattle.run_pictures.specs.PictureTexts.{run_line}
use Rattle.run_pictures.proofs.lines.push_lines.Given as goal

abbrev pub invariant-loop-index : goal.invariant-loop-index
invariant-loop-index l = string_bytes l.text ≡ string_bytes l.initial.text ++ numbered_lines run_line 1 (take l.index l.runs)
