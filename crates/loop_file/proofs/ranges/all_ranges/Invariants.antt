use Rattle.std.proofs.Common.{◌≡◌, drop, length, None}
use Rattle.toml.specs.View.{items_view}
use Rattle.loop_file.specs.Addresses.{all_ranges}
use Rattle.loop_file.proofs.Joined.{joined, so_far}
use Rattle.loop_file.proofs.ranges.all_ranges.Given as goal

-- the ranges so far, before those that are left
abbrev pub invariant-loop-item : goal.invariant-loop-item
invariant-loop-item l = record {
  ranges : joined (so_far l.fault l.ranges.items) (all_ranges l.symbols (items_view (drop l.item-index l.items))) ≡ all_ranges l.symbols (items_view l.items);
  count : l.fault ≡ None → length l.ranges.items ≡ l.item-index;
}
