use Rattle.std.proofs.Common.{ℕ, subst}
use Rattle.stack_laws.specs.Stacks.{IsStoredFrom}
use Rattle.stack_checks.specs.Checked.{from, stacks_along}
use Rattle.stack_checks.proofs.origins.source_of.Goals as goal

pub returns-then-number-j : goal.returns-then-number-j
returns-then-number-j c = subst (λ (x : ℕ). IsStoredFrom (stacks_along c.args.way.now) (from c.args.way.now) c.args.way.now.instr x c.in-Some.r) c.if-number-j.true c.in-Some.ensures
