use Rattle.std.proofs.Common.{refl, subst}
use Rattle.stack_laws.specs.Stacks.IsWordNamed.{unnamed as none_word, kept as kept_name, stored as stored_name}
use Rattle.stack_checks.specs.declared.origins.Source.{Source}
use Rattle.stack_checks.specs.Checked.{IsSourceOf}
use Rattle.stack_checks.proofs.words.is_word_named.Goals as goal

pub returns-then-is_unnamed : goal.returns-then-is_unnamed
returns-then-is_unnamed c so = none_word (c.if-is_unnamed.ensures refl)

pub returns-in-Missed : goal.returns-in-Missed
returns-in-Missed c so = kept_name (c.is_name_left.ensures.name so) (subst (λ (s : Source). IsSourceOf c.args.way.now c.args.j s) c.in-Missed.is c.requires.source) (c.is_name_left.ensures.steady so)

pub returns-in-Stored : goal.returns-in-Stored
returns-in-Stored c so = stored_name c.in-Stored.r (subst (λ (s : Source). IsSourceOf c.args.way.now c.args.j s) c.in-Stored.is c.requires.source) (c.is_name_of.ensures.name so) (c.is_name_of.ensures.steady so)
