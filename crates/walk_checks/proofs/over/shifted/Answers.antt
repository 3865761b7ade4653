use Rattle.std.proofs.Common.{◌∙◌, ◌%◌, ◌^◌, ap, rules}
use Rattle.std.specs.Int.{w32}
use Rattle.std.specs.Prelude.{FitsSigned}
use Rattle.std.proofs.lemmas.Int.{to_z-of_z}
use Rattle.scale_base.specs.Arith.{unsigned}
use Rattle.stack_tables.specs.Tables.{values_in}
use Rattle.walk_areas.specs.Walking.{multiplied, operand}
use Rattle.walk_checks.specs.Walked.{at_of, cert}
use Rattle.walk_checks.proofs.Cases.{if_some}
use Rattle.walk_checks.proofs.over.shifted.Goals as goal

pub returns-in-Some-clause-shifted : goal.returns-in-Some-clause-shifted
returns-in-Some-clause-shifted c =
    let word : FitsSigned w32 c.args.imm = search rules in
    if_some c.multiplied.result (λ z same. same ∙ (ap (λ x. multiplied x c.power_of.result) c.in-Some.ensures.operand ∙
    ap (multiplied (operand (values_in c.args.case.now.claim.now) (cert c.args.case.now) (at_of c.args.case.now c.args.k) c.args.rs1)) (c.power_of.ensures ∙ ap (λ n. 2 ^ (n % 32)) (c.cast_unsigned.ensures ∙ ap unsigned (to_z-of_z w32 c.args.imm word))))) c.multiplied.ensures.product
