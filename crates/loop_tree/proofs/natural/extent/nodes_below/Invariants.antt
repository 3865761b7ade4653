use Rattle.std.proofs.Common.{◌≡◌, ℕ, ◌-◌, ◌<◌, ◌≤◌, length, Some}
use Rattle.std.specs.Prelude.{slice_get}
use Rattle.loop_tree.proofs.natural.extent.nodes_below.Given as goal

abbrev pub invariant-loop-from : goal.invariant-loop-from
invariant-loop-from l = record {
  order : l.from ≤ l.to;
  within : l.to ≤ length l.graph.code.nodes;
  below : (k a : ℕ) → k < l.from → slice_get l.graph.code.nodes k ≡ Some a → a < l.at;
  above : (k a : ℕ) → l.to ≤ k → slice_get l.graph.code.nodes k ≡ Some a → l.at ≤ a;
}

abbrev pub decreases-loop-from : goal.decreases-loop-from
decreases-loop-from l = l.to - l.from
