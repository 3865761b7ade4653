use Rattle.std.proofs.Common.{◌≡◌, ◌++◌, drop, length, option_map, All}
use Rattle.toml.specs.View.{items_view}
use Rattle.jump_lists.specs.Notes.{IsAligned}
use Rattle.jump_lists.specs.Jumps.{all_targets}
use Rattle.jump_lists.proofs.targets.all_addresses.Given as goal

-- the addresses so far, before those that are left
abbrev pub invariant-loop-item : goal.invariant-loop-item
invariant-loop-item l = record {
  addresses : option_map (λ others. l.addresses.items ++ others) (all_targets (items_view (drop l.item-index l.items))) ≡ all_targets (items_view l.items);
  count : length l.addresses.items ≡ l.item-index;
  aligned : All IsAligned l.addresses.items;
}
