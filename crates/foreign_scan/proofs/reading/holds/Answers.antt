use Rattle.std.proofs.Common.{refl}
use Rattle.foreign_scan.proofs.HoldLaws.{hold_at, hold_more, hold_all}
use Rattle.foreign_scan.proofs.reading.holds.Goals as goal

pub returns-then-not-holds_at : goal.returns-then-not-holds_at
returns-then-not-holds_at c = (λ no. absurd cc, λ h. let e = c.holds_at.ensures.1 (hold_at c.args.key.now c.args.at c.args.code.now c.loop-k.k _ c.loop-k-test.true h) in absurd cc)

pub loop-k-preserved : goal.loop-k-preserved
loop-k-preserved c = hold_more c.args.key.now c.args.at c.args.code.now c.loop-k.k _ c.loop-k-test.true c.loop-k.invariant (c.holds_at.ensures.0 cc)

pub returns : goal.returns
returns c = (λ _. hold_all c.args.key.now c.args.at c.args.code.now c.loop-k.k c.loop-k-test.false c.loop-k.invariant, λ _. refl)
