use Rattle.std.proofs.Common.{◌≡◌, ℕ, ◌<◌, length}
use Rattle.std.specs.Prelude.{slice_index}
use Rattle.fixed_tables.specs.Tables.{IsEntry}
use Rattle.fixed_tables.proofs.entries.entries_of.Given as goal

abbrev pub invariant-loop-k : goal.invariant-loop-k
invariant-loop-k l = (length l.entries.items ≡ l.k) × ((i : ℕ) → i < l.k → IsEntry l.view l.table i (slice_index l.entries.items i))
