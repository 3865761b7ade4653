use Rattle.std.proofs.Common.{◌≡◌, ◌++◌, take, string_bytes}
use Rattle.scale_report.specs.Texts.{numbered_lines}
use Rattle.run_pictures.specs.PictureTexts.{row_text}
use Rattle.run_pictures.proofs.frames.push_rows.Given as goal

abbrev pub invariant-loop-index : goal.invariant-loop-index
invariant-loop-index l = string_bytes l.text ≡ string_bytes l.initial.text ++ numbered_lines (row_text l.axis l.levels) 0 (take l.index l.runs)
