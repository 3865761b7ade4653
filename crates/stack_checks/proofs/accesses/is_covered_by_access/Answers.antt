use Rattle.std.proofs.Common.{ℕ, subst}
use Rattle.stack_laws.specs.Areas.{IsAccess}
use Rattle.stack_checks.proofs.accesses.is_covered_by_access.Goals as goal

pub is_covered_at-requires-clause-access : goal.is_covered_at-requires-clause-access
is_covered_at-requires-clause-access c = subst (λ (x : ℕ). IsAccess c.args.way.now.instr x c.in-Some.more) c.if-s-r.true c.in-Some.ensures
