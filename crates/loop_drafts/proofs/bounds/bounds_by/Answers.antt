use Rattle.std.proofs.Common.{inr, refl, sym, subst}
use Rattle.std.specs.Prelude.{Vec}
use Rattle.std.specs.declared.alloc.Global.{Global}
use Rattle.loop_file.specs.declared.notes.LoopNote.{LoopNote}
use Rattle.value_checks.specs.Tables.{values_of}
use Rattle.stack_tables.specs.Tables.{stacks_of}
use Rattle.loop_drafts.specs.declared.trusting.Trust.{Trust}
use Rattle.loop_drafts.specs.Trusting.{IsTrustOf}
use Rattle.loop_drafts.specs.Sought.{AreFoundBy, AreLeastFoundBy, AreReturnsFoundBy}
use Rattle.loop_drafts.proofs.Untrusting.{trust_shown}
use Rattle.loop_drafts.proofs.bounds.bounds_by.Goals as goal

pub returns-clause-found : goal.returns-clause-found
returns-clause-found c =
    let claim = c.args.claim.now in
    let code = claim.graph.now.code in
    let values = values_of code claim.table.now in
    let stacks = stacks_of code claim.stack.now in
    inr (record {
      code = code;
      values = values;
      stacks = stacks;
      analysed = c.if-not-is_stack_analysed.ensures refl;
      trusts = subst (λ (trust : Trust). IsTrustOf code trust values stacks) (sym c.trusting.ensures.trust) (trust_shown code claim.table.now claim.stack.now c.in_ok-trust.trust c.in_ok-trust.ensures);
      shown = subst (λ (notes : Vec LoopNote Global). AreFoundBy c.args.sources.now.most claim notes.items) (sym c.trusting.ensures.notes) c.in_ok-bounds.ensures.found;
      least = subst (λ (notes : Vec LoopNote Global). AreLeastFoundBy claim notes.items) (sym c.trusting.ensures.notes) c.in_ok-bounds.ensures.least;
      comes_back = subst (AreReturnsFoundBy claim) (sym c.trusting.ensures.returns) c.in_ok-bounds.ensures.returns;
    })
