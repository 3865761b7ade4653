-- The line of a function or of a loop, byte for byte. It ends with one line feed, and numbers are decimal.
use Rattle.std.specs.Prelude.{codes, ℕ, List, [], ◌∷◌, ◌++◌, String, string_bytes, Option, Some, None}
use Rattle.std.specs.Fmt.{decimal}
use Rattle.std.specs.Global.{Global}
use Rattle.scale_report.specs.Texts.{address}
use Rattle.worst_lines.specs.declared.shown.Part.{Part}
use Rattle.worst_lines.specs.declared.shown.Part.TheVariants.{Function, Loop}
use Rattle.worst_lines.specs.declared.shown.Line.{Line}

-- a function or a loop with its number
abbrev pub head_words : Part → List ℕ
head_words (Function calls) = codes "function "
head_words (Loop number entries turns) = codes "loop " ++ decimal number ++ codes " "

-- a place beside a symbol, with a space before it
abbrev pub place_text : Option (String Global) → List ℕ
place_text None = []
place_text (Some text) = codes " " ++ string_bytes text

-- how often it is called, or entered and turns
abbrev pub times_words : Part → List ℕ
times_words (Function calls) = codes " calls " ++ decimal calls
times_words (Loop number entries turns) = codes " entries " ++ decimal entries ++ codes " turns " ++ decimal turns

-- own cycles, and all
unfoldable pub cycle_words : (own all : ℕ) → List ℕ
cycle_words own all = codes " own " ++ decimal own ++ codes " all " ++ decimal all ++ 10 ∷ []

-- the line of a function or of a loop
unfoldable pub line_text : Line → List ℕ
line_text line = head_words line.part ++ address line.at ++ place_text line.place ++ times_words line.part ++ cycle_words line.own line.all
