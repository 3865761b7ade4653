use Rattle.std.proofs.Common.{◌≡◌, ◌++◌, ◌≤◌, drop, length}
use Rattle.scale_sites.specs.Counters.{set_from}
use Rattle.scale_sites.proofs.counting.counted_of.Given as goal

abbrev pub invariant-loop-l : goal.invariant-loop-l
invariant-loop-l l = record {
  few : length l.loops.items ≤ l.l;
  found : l.loops.items ++ set_from l.l (drop l.l l.tree.counted) ≡ set_from 0 l.tree.counted;
}
