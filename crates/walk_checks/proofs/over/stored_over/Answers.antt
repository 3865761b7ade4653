use Rattle.std.proofs.Common.{ℕ, subst}
use Rattle.stack_laws.specs.Stacks.{IsStoredFrom}
use Rattle.stack_tables.specs.Tables.{stacks_in, values_in}
use Rattle.walk_checks.specs.Walked.{at_of, cert, found_view}
use Rattle.walk_checks.proofs.Cases.{if_some, stored_found}
use Rattle.walk_checks.proofs.over.stored_over.Goals as goal

pub returns-then-word-number-clause-over : goal.returns-then-word-number-clause-over
returns-then-word-number-clause-over c = if_some c.operand.result (λ z same. stored_found (values_in c.args.case.now.claim.now) (stacks_in c.args.case.now.claim.now) (cert c.args.case.now) (at_of c.args.case.now c.args.k) c.args.i c.args.number (found_view z) c.in-Some.register
    (subst (λ (x : ℕ). IsStoredFrom (stacks_in c.args.case.now.claim.now) (at_of c.args.case.now c.args.k) c.args.i x c.in-Some.register) c.if-word-number.true c.in-Some.ensures) same) c.operand.ensures.operand
