use Rattle.std.proofs.Common.{◌≡◌, length}
use Rattle.foreign_scan.specs.Counts.{AreEdgesWithin, AreFirstsBelow, numbered_fragments}
use Rattle.foreign_scan.proofs.counts.first_counts.Given as goal

abbrev pub invariant-loop-e : goal.invariant-loop-e
invariant-loop-e l = record {
  size : length l.firsts.items ≡ 512;
  within : AreEdgesWithin (length l.lists.edges.now) l.firsts.items;
  firsts : AreFirstsBelow l.lists.edges.now l.lists.backs.now (numbered_fragments l.lists.sources.now l.lists.edges.now l.sites) l.e l.firsts.items;
}
