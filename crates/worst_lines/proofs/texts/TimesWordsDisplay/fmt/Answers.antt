use Rattle.std.proofs.Common.{append_assoc}
use Rattle.std.proofs.Output.{has_written_of_eq}
use Rattle.worst_lines.proofs.texts.TimesWordsDisplay.fmt.Goals as goal

pub returns-in-Loop-clause-writes : goal.returns-in-Loop-clause-writes
returns-in-Loop-clause-writes g c = λ plain ok. rw c.in-Loop.is (has_written_of_eq _ _ _ _ _ (simp append_assoc) (c.write-in-Loop.ensures.writes plain ok))
