use Rattle.std.proofs.Common.{◌≤◌, length, All}
use Rattle.versioned_images.specs.Versions.{IsVersionOf}
use Rattle.versioned_images.proofs.finding.versions_in.Given as goal

abbrev pub invariant-loop-i : goal.invariant-loop-i
invariant-loop-i l = record {
  few : length l.found.items ≤ 8;
  found : All (IsVersionOf l.fn.view.file) l.found.items;
}
