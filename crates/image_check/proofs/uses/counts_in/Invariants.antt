use Rattle.std.proofs.Common.{◌≡◌, ◌≤◌, take}
use Rattle.std.specs.List.{sum_by}
use Rattle.image_check.specs.Safe.{counts_it}
use Rattle.image_check.proofs.uses.counts_in.Given as goal

abbrev pub invariant-loop-fragment : goal.invariant-loop-fragment
invariant-loop-fragment l = record {
  total : l.found ≡ sum_by (counts_it l.counter) (take l.fragment-index l.fragments);
  few : l.found ≤ l.fragment-index;
}
