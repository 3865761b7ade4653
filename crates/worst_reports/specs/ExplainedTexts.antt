-- The text of where the worst cycles go, byte for byte. Each line ends with one line feed, and numbers are decimal.
use Rattle.std.specs.Prelude.{codes, ℕ, List, ◌++◌, flat_map, Option, Some, None}
use Rattle.std.specs.Global.{Vec}
use Rattle.scale_report.specs.Texts.{number_line}
use Rattle.worst_lines.specs.declared.shown.Line.{Line}
use Rattle.worst_lines.specs.LineTexts.{line_text}
use Rattle.worst_reports.specs.declared.explained.Explained.{Explained}

abbrev pub lines_text : Option (Vec Line) → List ℕ
lines_text None = codes "walk not found\n"
lines_text (Some lines) = flat_map line_text lines.items

-- the worst cycles, and a line for each function and each loop on the walk
abbrev pub explained_text : Explained → List ℕ
explained_text explained = number_line (codes "worst cycles ") explained.worst ++ lines_text explained.lines
