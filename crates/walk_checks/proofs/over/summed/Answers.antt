use Rattle.std.proofs.Common.{◌∙◌, ap, rules}
use Rattle.std.specs.Int.{w32}
use Rattle.std.specs.Prelude.{FitsSigned}
use Rattle.std.proofs.lemmas.Int.{to_z-of_z}
use Rattle.scale_base.specs.Arith.{unsigned}
use Rattle.stack_tables.specs.Tables.{values_in}
use Rattle.walk_areas.specs.Walking.{moved_by_number, operand}
use Rattle.walk_checks.specs.Walked.{at_of, cert}
use Rattle.walk_checks.proofs.over.summed.Goals as goal

pub returns-in-Some-clause-summed : goal.returns-in-Some-clause-summed
returns-in-Some-clause-summed c =
    let word : FitsSigned w32 c.args.imm = search rules in
    c.moved.ensures.moved ∙ (ap (λ x. moved_by_number x c.cast_unsigned.result) c.in-Some.ensures.operand ∙
    ap (moved_by_number (operand (values_in c.args.case.now.claim.now) (cert c.args.case.now) (at_of c.args.case.now c.args.k) c.args.rs1)) (c.cast_unsigned.ensures ∙ ap unsigned (to_z-of_z w32 c.args.imm word)))
