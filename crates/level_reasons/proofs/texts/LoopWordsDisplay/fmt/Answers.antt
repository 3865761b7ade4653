use Rattle.std.proofs.Common.{append_assoc}
use Rattle.std.proofs.Output.{has_written_of_eq}
use Rattle.level_reasons.proofs.texts.LoopWordsDisplay.fmt.Goals as goal

pub returns-in-NeedsTurns-clause-writes : goal.returns-in-NeedsTurns-clause-writes
returns-in-NeedsTurns-clause-writes g c = λ plain ok. rw c.in-NeedsTurns.is (has_written_of_eq _ _ _ _ _ (simp append_assoc) (c.write-in-NeedsTurns.ensures.writes plain ok))

pub returns-in-Never-clause-writes : goal.returns-in-Never-clause-writes
returns-in-Never-clause-writes g c = λ plain ok. rw c.in-Never.is (has_written_of_eq _ _ _ _ _ (simp append_assoc) (c.write-in-Never.ensures.writes plain ok))
