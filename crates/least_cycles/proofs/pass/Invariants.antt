use Rattle.std.proofs.Common.{length}
use Rattle.least_cycles.proofs.Relaxing.{IsPassed}
use Rattle.least_cycles.proofs.pass.Given as goal

abbrev pub invariant-loop-hop : goal.invariant-loop-hop
invariant-loop-hop l = IsPassed (length l.fn.table) l.most l.hops l.fn.table l.table l.changed l.hop-index
