-- The text of the reasons, byte for byte. Each line ends with one line feed, and numbers are decimal.
use Rattle.std.specs.Prelude.{codes, ℕ, List, [], ◌∷◌, ◌++◌, flat_map, Some, None}
use Rattle.std.specs.Fmt.{decimal}
use Rattle.scale_report.specs.Texts.{number_line, address, kind_name}
use Rattle.level_reasons.specs.declared.shown.EdgeReason.{EdgeReason}
use Rattle.level_reasons.specs.declared.shown.EdgeReason.TheVariants as edge
use Rattle.level_reasons.specs.declared.shown.EdgeLine.{EdgeLine}
use Rattle.level_reasons.specs.declared.shown.LoopReason.{LoopReason}
use Rattle.level_reasons.specs.declared.shown.LoopReason.TheVariants as turns
use Rattle.level_reasons.specs.declared.shown.LoopLine.{LoopLine}
use Rattle.level_reasons.specs.declared.shown.Shown.{Shown}

-- so many percent of those that are needed
unfoldable pub percent_words : (given needed : ℕ) → List ℕ
percent_words given needed = decimal given ++ codes " of " ++ decimal needed ++ codes " percent needed"

-- why the level stays on an edge, or where it goes
abbrev pub edge_words : EdgeReason → List ℕ
edge_words edge.AlreadySlowest = codes "already slowest"
edge_words (edge.FallsShort falls needed) = codes "falls " ++ percent_words falls needed
edge_words (edge.PaysNot (Some least)) = codes "pays not: " ++ decimal least ++ codes " cycles left at least"
edge_words (edge.PaysNot None) = codes "pays not: no end ahead"
edge_words (edge.GoesTo level) = codes "goes to level " ++ decimal level

-- how many turns a loop has to have left
abbrev pub loop_words : LoopReason → List ℕ
loop_words turns.AlreadySlowest = codes "already slowest"
loop_words turns.NoWayOut = codes "has no way out by a branch"
loop_words (turns.NeedsTurns needed bound) = codes "needs " ++ decimal needed ++ codes " of " ++ decimal bound ++ codes " turns left"
loop_words (turns.Never bound gives needed) = codes "never: all " ++ decimal bound ++ codes " turns give " ++ percent_words gives needed

-- the line of an edge
unfoldable pub edge_line : EdgeLine → List ℕ
edge_line l = codes "edge " ++ address l.edge.at ++ codes " " ++ kind_name l.edge.kind ++ codes " slack " ++ decimal l.slack ++ codes " "
    ++ edge_words l.reason ++ 10 ∷ []

-- the line of a loop
unfoldable pub loop_line : LoopLine → List ℕ
loop_line l = codes "loop " ++ decimal l.number ++ codes " " ++ address l.header ++ codes " turn " ++ decimal l.turn ++ codes " "
    ++ loop_words l.reason ++ 10 ∷ []

-- the starting level and the worst cycles, a line for each edge with slack and one for each loop
abbrev pub reasons_text : Shown → List ℕ
reasons_text s =
    number_line (codes "start level ") s.start ++ number_line (codes "worst cycles ") s.worst ++ flat_map edge_line s.edges.items
    ++ flat_map loop_line s.loops.items
