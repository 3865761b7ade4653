use Rattle.std.proofs.Common.{arith}
use Rattle.loop_drafts.proofs.Lists.{same_list}
use Rattle.loop_drafts.proofs.noted.are_wanted.Goals as goal

pub returns : goal.returns
returns c so =
    let size = c.count.ensures.count in
    same_list c.args.notes.now c.args.wanted.now (omega (arith, size)) (λ k kl. c.loop-k.invariant k (omega (arith, size, kl)))
