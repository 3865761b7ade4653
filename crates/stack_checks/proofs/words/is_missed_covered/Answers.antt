use Rattle.std.proofs.Common.{refl}
use Rattle.stack_laws.specs.Stacks.IsWordCovered.{kept as kept_word}
use Rattle.stack_checks.proofs.words.is_missed_covered.Goals as goal

pub returns-then-is_word_left : goal.returns-then-is_word_left
returns-then-is_word_left c so = kept_word c.requires.missed (c.if-is_word_left.ensures refl)
