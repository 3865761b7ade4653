use Rattle.std.proofs.Common.{subst, sym}
use Rattle.std.proofs.lemmas.List.Elements.{All-push, All-same}
use Rattle.loop_drafts.specs.Sought.{AreReturnsFoundBy, IsFoundBy, IsLeastFoundBy}
use Rattle.loop_drafts.proofs.bounds.seek_all.Goals as goal

pub loop-k-preserved : goal.loop-k-preserved
loop-k-preserved c =
    let sought = c.in_ok-seek_or_stop.field-0 in
    let items = c.loop-k.bounds.notes.items in (
      All-same (IsFoundBy c.args.sources.now.most c.args.claim.now) _ _ c.in_ok-push.ensures.notes (All-push (IsFoundBy c.args.sources.now.most c.args.claim.now) items sought.note c.loop-k.invariant.0 c.in_ok-seek_or_stop.ensures.found),
      All-same (IsLeastFoundBy c.args.claim.now) _ _ c.in_ok-push.ensures.notes (All-push (IsLeastFoundBy c.args.claim.now) items sought.note c.loop-k.invariant.1 c.in_ok-seek_or_stop.ensures.least),
      subst (AreReturnsFoundBy c.args.claim.now) (sym c.in_ok-push.ensures.returns) c.loop-k.invariant.2,
    )
