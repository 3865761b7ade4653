-- Tables with a number for each pair of levels: row i is that of changes from level i, column l that of changes to level l.
use Rattle.std.specs.Prelude.{ℕ, ◌==◌, if◌then◌else◌, [], map, slice_index, slice_index_or}
use Rattle.std.specs.List.{range_with_len}
use Rattle.power_model.specs.declared.power.PairTable.{PairTable}

-- the number of a pair
abbrev pub pair_at : PairTable → ℕ → ℕ → ℕ
pair_at table i l = slice_index (slice_index_or table.rows i []) l

-- the table with these numbers: 8 rows of 8
abbrev pub pairs_by : (ℕ → ℕ → ℕ) → PairTable
pairs_by f = record { rows = map (λ i. map (f i) (range_with_len 0 8)) (range_with_len 0 8) }

-- the same number for each change of level, and 0 where the level stays
abbrev pub uniform : ℕ → PairTable
uniform n = pairs_by (λ i l. if i == l then 0 else n)
