use Rattle.image_lower.proofs.Places.{found_in, later_in}
use Rattle.image_lower.proofs.block.place_of.Goals as goal

pub returns-then-at-note-clause-place : goal.returns-then-at-note-clause-place
returns-then-at-note-clause-place c = λ note same.
    found_in c.args.sorted.now c.loop-k.k c.index-sorted-k.result note c.args.at c.loop-k-test.true c.index-sorted-k.is c.if-at-note.true same (c.loop-k.invariant note same)

pub loop-k-preserved : goal.loop-k-preserved
loop-k-preserved c = λ note same.
    later_in c.args.sorted.now c.loop-k.k c.index-sorted-k.result note c.args.at c.loop-k-test.true c.index-sorted-k.is c.if-at-note.false same (c.loop-k.invariant note same)
