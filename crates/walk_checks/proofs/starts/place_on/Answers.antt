use Rattle.std.proofs.Common.{Option, ap}
use Rattle.bound_laws.specs.Values.{Arc}
use Rattle.stack_tables.specs.Tables.{stacks_in, values_in}
use Rattle.walk_areas.specs.Walking.{IsArcOver}
use Rattle.walk_areas.specs.Walking.IsArcOver.{register}
use Rattle.walk_checks.specs.Walked.{at_of, place_view}
use Rattle.walk_checks.proofs.Cases.{if_known}
use Rattle.walk_checks.proofs.starts.place_on.Goals as goal

pub returns-then-is_register-clause-over : goal.returns-then-is_register-clause-over
returns-then-is_register-clause-over c = if_known c.passed_on.result (λ (arc : Option Arc). IsArcOver (values_in c.args.case.now.claim.now) (stacks_in c.args.case.now.claim.now) (at_of c.args.case.now c.args.step.from) c.args.step.instr (at_of c.args.case.now c.args.step.to) (place_view c.args.place) arc)
    (register c.in-Register.r (ap place_view c.in-Register.is) (c.is_register.ensures c.if-is_register.true) c.passed_on.ensures.arc)
