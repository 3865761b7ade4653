use Rattle.std.proofs.Common.{ℕ, ◌∙◌, subst}
use Rattle.stack_laws.specs.Stacks.{IsLoadedTo}
use Rattle.stack_tables.specs.Tables.{stacks_in, values_in}
use Rattle.walk_checks.specs.Walked.{at_of, cert, found_view}
use Rattle.walk_checks.proofs.Cases.{if_some, loaded_found}
use Rattle.walk_checks.proofs.over.loaded_over.Goals as goal

pub returns-then-register-r-clause-over : goal.returns-then-register-r-clause-over
returns-then-register-r-clause-over c = if_some c.known_of.result (λ z same. loaded_found (values_in c.args.case.now.claim.now) (stacks_in c.args.case.now.claim.now) (cert c.args.case.now) (at_of c.args.case.now c.args.k) c.args.i c.args.r (found_view z) c.in-Some.number
    (subst (λ (x : ℕ). IsLoadedTo (stacks_in c.args.case.now.claim.now) (at_of c.args.case.now c.args.k) c.args.i c.in-Some.number x) c.if-register-r.true c.in-Some.ensures) (same ∙ c.word_at.ensures)) c.known_of.ensures.known
