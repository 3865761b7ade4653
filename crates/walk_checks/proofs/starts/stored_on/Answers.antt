use Rattle.std.proofs.Common.{ℕ, Option, refl, subst}
use Rattle.bound_laws.specs.Values.{Arc}
use Rattle.stack_laws.specs.Stacks.{IsStoredFrom}
use Rattle.stack_tables.specs.Tables.{stacks_in, values_in}
use Rattle.walk_areas.specs.Walking.{IsArcOver}
use Rattle.walk_areas.specs.Walking.IsArcOver.{stored}
use Rattle.walk_areas.specs.Walking.Place.{in_word}
use Rattle.walk_checks.specs.Walked.{at_of}
use Rattle.walk_checks.proofs.Cases.{if_known}
use Rattle.walk_checks.proofs.starts.stored_on.Goals as goal

pub returns-then-word-number-clause-over : goal.returns-then-word-number-clause-over
returns-then-word-number-clause-over c = if_known c.held_at.result (λ (arc : Option Arc). IsArcOver (values_in c.args.case.now.claim.now) (stacks_in c.args.case.now.claim.now) (at_of c.args.case.now c.args.step.from) c.args.step.instr (at_of c.args.case.now c.args.step.to) (in_word c.args.number) arc)
    (stored c.args.number c.in-Some.register refl
    (subst (λ (x : ℕ). IsStoredFrom (stacks_in c.args.case.now.claim.now) (at_of c.args.case.now c.args.step.from) c.args.step.instr x c.in-Some.register) c.if-word-number.true c.in-Some.ensures) c.held_at.ensures.held)
