use Rattle.std.proofs.Common.{refl, subst}
use Rattle.stack_laws.specs.Stacks.IsWordCovered.{any as any_word, stored as stored_word}
use Rattle.stack_checks.specs.declared.origins.Source.{Source}
use Rattle.stack_checks.specs.Checked.{IsSourceOf}
use Rattle.stack_checks.proofs.words.is_word_covered.Goals as goal

pub returns-then-is_any : goal.returns-then-is_any
returns-then-is_any c so = any_word (c.if-is_any.ensures refl)

pub returns-in-Stored : goal.returns-in-Stored
returns-in-Stored c so = stored_word c.in-Stored.r (subst (λ (s : Source). IsSourceOf c.args.way.now c.args.j s) c.in-Stored.is c.requires.source) (c.is_word_of.ensures so)
