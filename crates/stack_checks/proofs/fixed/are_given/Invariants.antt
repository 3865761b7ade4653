use Rattle.std.proofs.Common.{ℕ, ◌<◌, ◌+◌, ◌*◌, ◌%◌, ◌^◌}
use Rattle.stack_tables.specs.Tables.{fixed_in}
use Rattle.stack_checks.specs.Checked.{GivesAt}
use Rattle.stack_checks.proofs.fixed.are_given.Given as goal

abbrev pub invariant-loop-n : goal.invariant-loop-n
invariant-loop-n l = (k : ℕ) → k < l.n → GivesAt (fixed_in l.parts) l.loading ((l.place.low + l.place.stride * k) % 2 ^ 32)
