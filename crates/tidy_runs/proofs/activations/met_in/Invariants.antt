use Rattle.std.proofs.Common.{◌≡◌, ℕ, ◌+◌, ◌*◌, ◌<◌, true}
use Rattle.scale_base.specs.Arith.{plus}
use Rattle.bound_laws.specs.Values.{opposite_of}
use Rattle.stack_laws.specs.Stacks.{IsApart}
use Rattle.value_checks.specs.Tables.{flag}
use Rattle.tidy_runs.proofs.activations.met_in.Given as goal

abbrev pub invariant-loop-number : goal.invariant-loop-number
invariant-loop-number l = (k : ℕ) → k < l.number → flag l.kept k ≡ true → IsApart l.written.from l.written.count (plus l.stack (opposite_of (4 * (k + 1))))
