use Rattle.std.proofs.Common.{inr, refl}
use Rattle.value_checks.specs.Tables.{values_of}
use Rattle.stack_tables.specs.Tables.{stacks_of}
use Rattle.loop_drafts.proofs.Turning.{turning_shown}
use Rattle.loop_drafts.proofs.bounds.confirmed.Goals as goal

pub returns-clause-found : goal.returns-clause-found
returns-clause-found c =
    let claim = c.args.claim.now in
    let code = claim.graph.now.code in
    inr (turning_shown claim.view.now code (values_of code claim.table.now) (stacks_of code claim.stack.now) c.args.candidate.most _ _ _ c.in_ok-turning.ensures.note (c.if-not-is_shown.ensures refl))
