use Rattle.std.proofs.Common.{◌∷◌, [], ◌++◌, sym, ap, ◌∙◌}
use Rattle.loop_drafts.proofs.Lists.{take_next}
use Rattle.loop_drafts.proofs.noted.copied.Goals as goal

pub loop-k-preserved : goal.loop-k-preserved
loop-k-preserved c =
    let x = c.get.result.now in
    c.in_ok-push.ensures.items ∙ (ap (λ xs. xs ++ x ∷ []) c.loop-k.invariant ∙ sym (take_next c.args.ranges.now c.loop-k.k x c.get.ensures))
