use Rattle.std.proofs.Common.{ℕ, Some, subst}
use Rattle.bound_laws.specs.Values.{Covers, opposite_of, sum_with}
use Rattle.stack_laws.specs.Stacks.IsWordCovered.{accessed as accessed_word}
use Rattle.stack_checks.specs.Checked.{stacks_along, to}
use Rattle.stack_checks.proofs.words.is_accessed_by.Goals as goal

pub returns-in-Some : goal.returns-in-Some
returns-in-Some c so =
    accessed_word c.args.r c.args.more c.args.further c.in-Some.place c.requires.register c.requires.named c.requires.missed c.in-Some.ensures.place
    (subst (λ (n : ℕ). Covers ((stacks_along c.args.way.now).word (to c.args.way.now) c.args.j) (sum_with (Some c.in-Some.place) (opposite_of n))) c.added.ensures (c.is_access_below.ensures so))
