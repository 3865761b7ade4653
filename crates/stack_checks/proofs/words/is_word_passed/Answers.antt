use Rattle.std.proofs.Common.{refl}
use Rattle.stack_checks.proofs.words.is_word_passed.Goals as goal

pub returns : goal.returns
returns c so = record { covered = c.if-not-is_word_covered.ensures refl; named = c.if-not-is_word_named.ensures refl; spanned = c.is_word_spanned.ensures so }
