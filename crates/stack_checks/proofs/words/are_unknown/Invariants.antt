use Rattle.std.proofs.Common.{ℕ, ◌<◌}
use Rattle.stack_tables.specs.Tables.{IsUnknown, address, stacks_in}
use Rattle.stack_checks.proofs.words.are_unknown.Given as goal

abbrev pub invariant-loop-j : goal.invariant-loop-j
invariant-loop-j l = (j : ℕ) → j < l.j → IsUnknown (stacks_in l.claim) (address l.claim l.n) j
