use Rattle.std.proofs.Common.{◌∙◌, subst, sym}
use Rattle.std.proofs.lemmas.List.Elements.{All-push, All-same}
use Rattle.loop_drafts.specs.Trusting.{AreNoneTrusted}
use Rattle.loop_drafts.specs.Bounds.{IsOpen, NeedNotTurn}
use Rattle.loop_drafts.proofs.bounds.open_all.Goals as goal

pub loop-k-preserved : goal.loop-k-preserved
loop-k-preserved c =
    let sought = c.in_ok-left_open.field-0 in
    let items = c.loop-k.bounds.notes.items in (
      All-same IsOpen _ _ c.in_ok-push.ensures.notes (All-push IsOpen items sought.note c.loop-k.invariant.0 c.in_ok-left_open.ensures.bounds),
      All-same NeedNotTurn _ _ c.in_ok-push.ensures.notes (All-push NeedNotTurn items sought.note c.loop-k.invariant.1 c.in_ok-left_open.ensures.least),
      c.in_ok-push.ensures.returns ∙ c.loop-k.invariant.2,
      subst AreNoneTrusted (sym c.in_ok-push.ensures.trust) c.loop-k.invariant.3,
    )
