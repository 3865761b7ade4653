use Rattle.std.proofs.Common.{take}
use Rattle.std.specs.Fmt.{HasWritten, IsPlainFormatter}
use Rattle.scale_report.specs.Texts.{spaced_words}
use Rattle.scale_report.proofs.words.SpacedWordsDisplay.fmt.Given as goal

-- the words so far have been written
abbrev pub invariant-loop-row : goal.invariant-loop-row
invariant-loop-row g l = IsPlainFormatter l.initial.f → HasWritten g.W.Write.write_str_gives l.initial.f (spaced_words (take l.row l.self.0.now)) l.f
