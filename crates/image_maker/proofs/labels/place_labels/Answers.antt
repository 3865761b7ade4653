use Rattle.std.proofs.Common.{take_all}
use Rattle.image_maker.proofs.labels.place_labels.Goals as goal

pub returns-in-None-clause-once : goal.returns-in-None-clause-once
returns-in-None-clause-once c =
    let lines = c.args.lines.now in
    rw (take_all c.loop-k.k lines c.loop-k-test.false) at (rw c.in-None.is at c.loop-k.invariant.first)
