use Rattle.std.proofs.Common.{◌≡◌, ◌∙◌, ap}
use Rattle.scale_base.specs.declared.instruction.RegOp.TheVariants.{Add}
use Rattle.scale_base.specs.declared.instruction.Instr.TheVariants.{Reg}
use Rattle.stack_tables.specs.Tables.{stacks_in, values_in}
use Rattle.walk_checks.specs.Walked.{at_of, cert, found_view}
use Rattle.walk_checks.proofs.Cases.{added_found, if_some}
use Rattle.walk_checks.proofs.over.added_over.Goals as goal

pub returns-in-Add-clause-over : goal.returns-in-Add-clause-over
returns-in-Add-clause-over c =
    let is : c.args.i ≡ Reg Add c.args.r c.in-Reg.rs1 c.in-Reg.rs2 =
    c.in-Reg.is ∙ (ap (λ o. Reg o c.in-Reg.rd c.in-Reg.rs1 c.in-Reg.rs2) c.in-Add.is ∙ ap (λ d. Reg Add d c.in-Reg.rs1 c.in-Reg.rs2) c.if-rd-r.false) in
    if_some c.added.result (λ z same. added_found (values_in c.args.case.now.claim.now) (stacks_in c.args.case.now.claim.now) (cert c.args.case.now) (at_of c.args.case.now c.args.k) c.args.i c.args.r (found_view z) c.in-Reg.rs1 c.in-Reg.rs2 is same) c.added.ensures.added
