use Rattle.std.proofs.Common.{◌≡◌, ◌*◌, ◌≤◌, take}
use Rattle.plan_texts.specs.Counts as counts
use Rattle.plan_texts.proofs.counts.edges_between.Given as goal

abbrev pub invariant-loop-block : goal.invariant-loop-block
invariant-loop-block l = (l.count ≡ counts.edges_between (take l.block-index l.blocks)) × (l.count ≤ l.block-index * 18446744073709551615)
