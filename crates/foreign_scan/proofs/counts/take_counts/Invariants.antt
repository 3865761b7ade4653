use Rattle.std.proofs.Common.{length, take}
use Rattle.foreign_scan.specs.Counts.{AreEdgesWithin, AreTaken}
use Rattle.foreign_scan.proofs.counts.take_counts.Given as goal

abbrev pub invariant-loop-fragment : goal.invariant-loop-fragment
invariant-loop-fragment l = record {
  within : AreEdgesWithin (length l.edges) l.firsts;
  taken : AreTaken l.edges l.initial.firsts l.firsts (take l.fragment-index l.fragments) l.e;
}
