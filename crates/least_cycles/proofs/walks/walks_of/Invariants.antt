use Rattle.least_cycles.specs.Tables.{IsBefore}
use Rattle.least_cycles.specs.Charging.{IsScratch}
use Rattle.least_cycles.specs.Passes.{AreFoundSoFar}
use Rattle.least_cycles.proofs.walks.walks_of.Given as goal

abbrev pub invariant-loop-i : goal.invariant-loop-i
invariant-loop-i l = record {
  scratch : IsScratch l.graph l.scratch;
  found : AreFoundSoFar l.program (IsBefore l.graph l.i) l.found;
}
