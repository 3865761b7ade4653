use Rattle.std.proofs.Common.{refl, subst}
use Rattle.stack_laws.specs.Stacks.IsWordSpanned.{by_name as named_span, kept as kept_span, stored as stored_span}
use Rattle.stack_checks.specs.declared.origins.Source.{Source}
use Rattle.stack_checks.specs.Checked.{IsSourceOf}
use Rattle.stack_checks.proofs.words.is_word_spanned.Goals as goal

pub returns-then-is_span_named : goal.returns-then-is_span_named
returns-then-is_span_named c so = named_span (c.if-is_span_named.ensures refl)

pub returns-in-Missed : goal.returns-in-Missed
returns-in-Missed c so = kept_span (subst (λ (s : Source). IsSourceOf c.args.way.now c.args.j s) c.in-Missed.is c.requires.source) (c.is_span_left.ensures so)

pub returns-in-Stored : goal.returns-in-Stored
returns-in-Stored c so = stored_span c.in-Stored.r (subst (λ (s : Source). IsSourceOf c.args.way.now c.args.j s) c.in-Stored.is c.requires.source) (c.is_span_of.ensures so)
