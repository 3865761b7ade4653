use Rattle.std.proofs.Common.{ℕ, subst, sym, ◌∙◌}
use Rattle.bound_laws.specs.Values.{Covers, opposite_of, sum_with}
use Rattle.stack_checks.specs.Checked.{stacks_along, to, values_along}
use Rattle.stack_checks.proofs.registers.is_span_by_interval.Goals as goal

pub returns-then-more-eq0 : goal.returns-then-more-eq0
returns-then-more-eq0 c so = record {
  begun = c.in-Some.begun;
  begun_is = sym c.begins.ensures.begins ∙ c.in-Some.is;
  one = sym c.more.ensures ∙ c.if-more-eq0.true;
  covers = subst (λ (n : ℕ). Covers ((stacks_along c.args.way.now).span (to c.args.way.now) c.args.r) (sum_with ((values_along c.args.way.now).at (to c.args.way.now) c.args.r) (opposite_of n))) c.low.ensures (c.is_span_of_interval.ensures so);
}
