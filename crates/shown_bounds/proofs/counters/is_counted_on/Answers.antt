use Rattle.std.proofs.Common.{ℕ, subst}
use Rattle.stack_laws.specs.Stacks.{IsStoredFrom}
use Rattle.stack_tables.specs.Tables.{claim_stacks}
use Rattle.shown_bounds.proofs.counters.is_counted_on.Goals as goal

pub returns-then-number-multiple : goal.returns-then-number-multiple
returns-then-number-multiple c so a at =
    (c.in-Some.register, subst (λ (x : ℕ). IsStoredFrom (claim_stacks c.args.claim.now) a c.args.i x c.in-Some.register) c.if-number-multiple.true (c.in-Some.ensures a at), c.is_more_at.ensures so a at)
