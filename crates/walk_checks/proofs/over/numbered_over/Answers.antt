use Rattle.std.proofs.Common.{◌≡◌, ◌∙◌, ◌%◌, ◌^◌, ℤ, ap, rules}
use Rattle.std.specs.Int.{w32}
use Rattle.std.specs.Prelude.{FitsSigned}
use Rattle.std.proofs.lemmas.Int.{to_z-of_z}
use Rattle.scale_base.specs.declared.instruction.ImmOp.TheVariants.{Addi, Slli}
use Rattle.scale_base.specs.declared.instruction.Instr.TheVariants.{Imm}
use Rattle.scale_base.specs.Arith.{unsigned}
use Rattle.stack_tables.specs.Tables.{stacks_in, values_in}
use Rattle.walk_areas.specs.Walking.{moved_by_number, multiplied, operand}
use Rattle.walk_checks.specs.Walked.{at_of, cert, found_view}
use Rattle.walk_checks.proofs.Cases.{if_some, shifted_found, summed_found}
use Rattle.walk_checks.proofs.over.numbered_over.Goals as goal

pub returns-in-Addi-clause-over : goal.returns-in-Addi-clause-over
returns-in-Addi-clause-over c =
    let word : FitsSigned w32 c.in-Imm.imm = search rules in
    let is : c.args.i ≡ Imm Addi c.args.r c.in-Imm.rs1 c.in-Imm.imm =
    c.in-Imm.is ∙ (ap (λ o. Imm o c.in-Imm.rd c.in-Imm.rs1 c.in-Imm.imm) c.in-Addi.is ∙ ap (λ d. Imm Addi d c.in-Imm.rs1 c.in-Imm.imm) c.if-rd-r.false) in
    if_some c.summed.result (λ z same. summed_found (values_in c.args.case.now.claim.now) (stacks_in c.args.case.now.claim.now) (cert c.args.case.now) (at_of c.args.case.now c.args.k) c.args.i c.args.r (found_view z) c.in-Imm.rs1 c.in-Imm.imm is (same ∙ ap (λ (n : ℤ). moved_by_number (operand (values_in c.args.case.now.claim.now) (cert c.args.case.now) (at_of c.args.case.now c.args.k) c.in-Imm.rs1) (unsigned n)) (to_z-of_z w32 c.in-Imm.imm word))) c.summed.ensures.summed

pub returns-in-Slli-clause-over : goal.returns-in-Slli-clause-over
returns-in-Slli-clause-over c =
    let word : FitsSigned w32 c.in-Imm.imm = search rules in
    let is : c.args.i ≡ Imm Slli c.args.r c.in-Imm.rs1 c.in-Imm.imm =
    c.in-Imm.is ∙ (ap (λ o. Imm o c.in-Imm.rd c.in-Imm.rs1 c.in-Imm.imm) c.in-Slli.is ∙ ap (λ d. Imm Slli d c.in-Imm.rs1 c.in-Imm.imm) c.if-rd-r.false) in
    if_some c.shifted.result (λ z same. shifted_found (values_in c.args.case.now.claim.now) (stacks_in c.args.case.now.claim.now) (cert c.args.case.now) (at_of c.args.case.now c.args.k) c.args.i c.args.r (found_view z) c.in-Imm.rs1 c.in-Imm.imm is (same ∙ ap (λ (n : ℤ). multiplied (operand (values_in c.args.case.now.claim.now) (cert c.args.case.now) (at_of c.args.case.now c.args.k) c.in-Imm.rs1) (2 ^ (unsigned n % 32))) (to_z-of_z w32 c.in-Imm.imm word))) c.shifted.ensures.shifted
