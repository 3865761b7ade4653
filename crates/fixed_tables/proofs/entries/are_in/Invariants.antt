use Rattle.std.proofs.Common.{ℕ, ◌<◌}
use Rattle.std.specs.Prelude.{slice_index}
use Rattle.fixed_tables.specs.Tables.{IsIn}
use Rattle.fixed_tables.proofs.entries.are_in.Given as goal

abbrev pub invariant-loop-number : goal.invariant-loop-number
invariant-loop-number l = (k : ℕ) → k < l.number-index → IsIn (slice_index l.numbers k) l.others
