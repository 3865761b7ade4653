use Rattle.std.proofs.Common.{ℕ, Option, refl, arith, subst}
use Rattle.stack_tables.specs.Tables.{stacks_in, values_in}
use Rattle.walk_areas.specs.Walking.{IsRowOver, Trace}
use Rattle.walk_checks.specs.Walked.{at_of, cert}
use Rattle.walk_checks.proofs.Cases.{each_register, register_more}
use Rattle.walk_checks.proofs.edges.are_rows_over.Goals as goal

pub loop-r-preserved : goal.loop-r-preserved
loop-r-preserved c = register_more (λ (x : ℕ). IsRowOver (values_in c.args.case.now.claim.now) (stacks_in c.args.case.now.claim.now) (cert c.args.case.now) (at_of c.args.case.now c.args.step.from) c.args.step.instr x ((cert c.args.case.now).row (at_of c.args.case.now c.args.step.to) x))
    c.loop-r.r c.loop-r.invariant
    (subst (λ (p : Option Trace). IsRowOver (values_in c.args.case.now.claim.now) (stacks_in c.args.case.now.claim.now) (cert c.args.case.now) (at_of c.args.case.now c.args.step.from) c.args.step.instr c.loop-r.r p) c.row_at.ensures (c.if-not-is_row_over.ensures refl))

pub returns : goal.returns
returns c so = each_register (λ (x : ℕ). IsRowOver (values_in c.args.case.now.claim.now) (stacks_in c.args.case.now.claim.now) (cert c.args.case.now) (at_of c.args.case.now c.args.step.from) c.args.step.instr x ((cert c.args.case.now).row (at_of c.args.case.now c.args.step.to) x))
    c.loop-r.r (let test = c.loop-r-test.false in omega (arith, test)) c.loop-r.invariant
