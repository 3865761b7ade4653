use Rattle.std.proofs.Common.{ℕ, subst}
use Rattle.stack_laws.specs.Stacks.{IsStoredFrom}
use Rattle.stack_checks.specs.Checked.{from, stacks_along}
use Rattle.stack_checks.proofs.registers.is_name_stored.Goals as goal

pub is_name_stored_to-requires-clause-stored : goal.is_name_stored_to-requires-clause-stored
is_name_stored_to-requires-clause-stored c = subst (λ (x : ℕ). IsStoredFrom (stacks_along c.args.way.now) (from c.args.way.now) c.args.way.now.instr c.in-Some.number x) c.if-rs-r.true c.in-Some.ensures
