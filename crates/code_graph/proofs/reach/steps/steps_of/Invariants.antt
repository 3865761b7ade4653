use Rattle.std.proofs.Common.{◌≡◌, ℕ, ◌<◌, length}
use Rattle.code_graph.specs.Flow.{step_at}
use Rattle.code_graph.specs.Steps.{IsStepAt}
use Rattle.code_graph.proofs.reach.steps.steps_of.Given as goal

abbrev pub invariant-loop-k : goal.invariant-loop-k
invariant-loop-k l = record {
  size : length l.steps.items ≡ l.k;
  each : (j : ℕ) → j < l.k → IsStepAt l.words j (step_at l.steps.items j);
}
