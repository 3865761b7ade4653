use Rattle.std.proofs.Common.{◌≡◌, ◌++◌, drop, option_map}
use Rattle.toml.specs.View.{items_view}
use Rattle.table_keys.specs.Keys.{all_numbers}
use Rattle.table_keys.proofs.rows.all_numbers.Given as goal

-- the numbers so far, before those that are left
abbrev pub invariant-loop-item : goal.invariant-loop-item
invariant-loop-item l = option_map (λ ns. l.numbers.items ++ ns) (all_numbers l.low l.high (items_view (drop l.item-index l.items))) ≡ all_numbers l.low l.high (items_view l.items)
