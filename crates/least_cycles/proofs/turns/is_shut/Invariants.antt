use Rattle.std.proofs.Common.{ℕ, ◌<◌, ◌≤◌}
use Rattle.least_cycles.specs.Functions.{IsNodeFlagged}
use Rattle.least_cycles.proofs.turns.is_shut.Given as goal

abbrev pub invariant-loop-e : goal.invariant-loop-e
invariant-loop-e l = (d : ℕ) → l.first ≤ d → d < l.e → IsNodeFlagged l.lasts d → ⊥
