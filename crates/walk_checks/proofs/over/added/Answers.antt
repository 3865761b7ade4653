use Rattle.std.proofs.Common.{◌∙◌, ap}
use Rattle.stack_tables.specs.Tables.{values_in}
use Rattle.walk_areas.specs.Walking.{operand, sum_of_both}
use Rattle.walk_checks.specs.Walked.{at_of, cert, found_view}
use Rattle.walk_checks.proofs.Cases.{if_some}
use Rattle.walk_checks.proofs.over.added.Goals as goal

pub returns-in-Some-Some-clause-added : goal.returns-in-Some-Some-clause-added
returns-in-Some-Some-clause-added c = if_some c.sum_of_both.result (λ z same. same ∙ (ap (λ x. sum_of_both x (found_view c.in-Some-Some.z)) c.in-Some-Some.ensures.operand ∙
    ap (sum_of_both (operand (values_in c.args.case.now.claim.now) (cert c.args.case.now) (at_of c.args.case.now c.args.k) c.args.rs1)) c.in-Some-Some.ensures'.operand)) c.sum_of_both.ensures.sum
