use Rattle.std.proofs.Common.{◌≡◌, ◌++◌, map, drop, option_map}
use Rattle.toml.specs.View.{items_view}
use Rattle.table_keys.specs.Keys.{all_rows}
use Rattle.table_keys.proofs.rows.all_rows.Given as goal

-- the rows so far, before those that are left
abbrev pub invariant-loop-item : goal.invariant-loop-item
invariant-loop-item l = option_map (λ rows. map (λ row. row.items) l.rows.items ++ rows) (all_rows l.low l.high (items_view (drop l.item-index l.items))) ≡ all_rows l.low l.high (items_view l.items)
