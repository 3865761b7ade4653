use Rattle.std.proofs.Common.{ℕ, subst}
use Rattle.stack_laws.specs.Stacks.{IsLoadedTo}
use Rattle.stack_checks.specs.Checked.{from, stacks_along}
use Rattle.stack_checks.proofs.origins.written_origin.Goals as goal

pub returns-then-rd-r : goal.returns-then-rd-r
returns-then-rd-r c = subst (λ (x : ℕ). IsLoadedTo (stacks_along c.args.way.now) (from c.args.way.now) c.args.way.now.instr c.in-Some.number x) c.if-rd-r.true c.in-Some.ensures

pub returns-in-None : goal.returns-in-None
returns-in-None c = c.sum_origin.ensures (stacks_along c.args.way.now) (from c.args.way.now)
