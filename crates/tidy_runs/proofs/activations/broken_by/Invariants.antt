use Rattle.std.proofs.Common.{ℕ, ◌<◌, get_or}
use Rattle.stack_tables.specs.Tables.{claim_stacks}
use Rattle.tidy_runs.specs.declared.activations.Activation.{Activation}
use Rattle.tidy_runs.specs.Looking.{AreMissed}
use Rattle.tidy_runs.proofs.activations.broken_by.Given as goal

abbrev pub invariant-loop-activation : goal.invariant-loop-activation
invariant-loop-activation l = (i : ℕ) (other : Activation) → i < l.activation-index → AreMissed (claim_stacks l.claim) l.written (get_or l.active i other)
