use Rattle.std.proofs.Common.{◌≤◌}
use Rattle.pace_fit.proofs.Fits.{IsCheapestSo}
use Rattle.pace_fit.proofs.choosing.cheapest.Given as goal

-- the choice so far
abbrev pub invariant-loop-k : goal.invariant-loop-k
invariant-loop-k g l = record {
  so : IsCheapestSo l.files l.proposals l.k l.best;
  saves : l.best.energy ≤ l.fn.held.energy;
}
