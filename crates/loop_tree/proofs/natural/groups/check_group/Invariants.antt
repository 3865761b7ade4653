use Rattle.std.proofs.Common.{◌≡◌, ℕ, ◌<◌}
use Rattle.loop_forest.specs.Noted.{IsNotedSideEntry}
use Rattle.loop_tree.proofs.natural.groups.check_group.Given as goal

abbrev pub invariant-loop-k : goal.invariant-loop-k
invariant-loop-k l = record {
  same : l.search ≡ l.fn.search;
  none : (k a b : ℕ) → k < l.k → IsNotedSideEntry l.noted.graph.now l.noted.notes.now k a b → ⊥;
}
