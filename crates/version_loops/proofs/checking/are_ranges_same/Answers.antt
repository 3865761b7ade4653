use Rattle.std.proofs.Common.{arith}
use Rattle.loop_drafts.proofs.Laws.{same_list}
use Rattle.version_loops.proofs.checking.are_ranges_same.Goals as goal

pub returns : goal.returns
returns c so = same_list c.args.one.now c.args.other.now (omega arith) (λ k kl. c.loop-k.invariant k (omega (arith, kl)))
