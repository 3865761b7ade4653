use Rattle.std.proofs.Common.{◌∙◌}
use Rattle.std.proofs.lemmas.Bool.{both_ways, not-true}
use Rattle.walk_checks.proofs.shown.is_entry_at.Goals as goal

pub returns-then-k-case-clause-begins : goal.returns-then-k-case-clause-begins
returns-then-k-case-clause-begins c so on = c.if-k-case.true

pub returns-clause-begins : goal.returns-clause-begins
returns-clause-begins c so on = absurd (both_ways c.is_body.result (not-true c.is_body.result so) (c.is_body.ensures ∙ on))

pub returns-clause-unknown : goal.returns-clause-unknown
returns-clause-unknown c so same = absurd (c.if-k-case.false same)
