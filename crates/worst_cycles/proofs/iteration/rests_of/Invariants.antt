use Rattle.std.proofs.Common.{◌≡◌, ℕ, ◌+◌, ◌^◌, ◌≤◌, Some, length}
use Rattle.worst_cycles.specs.Worst.{by_edge}
use Rattle.worst_cycles.specs.Rests.{rest_in, AreFoundTo}
use Rattle.worst_cycles.proofs.IterationLaws.{IsBodyAt}
use Rattle.worst_cycles.proofs.iteration.rests_of.Given as goal

abbrev pub invariant-loop-m : goal.invariant-loop-m
invariant-loop-m l = record {
  body : IsBodyAt l.planned.tree.now l.planned.plan.now l.l l.i l.rests.steps.items;
  same : length l.rests.steps.items ≡ length l.initial.rests.steps.items;
  size : length l.rests.found.items ≡ l.m;
  small : (q b : ℕ) → rest_in l.rests.found.items q ≡ Some b → b ≤ 2 ^ 48 + 2 ^ 32;
  found : AreFoundTo l.planned.graph.now l.planned.tree.now (by_edge l.planned.weights.now) l.planned.plan.now l.l l.rests.steps.items l.m l.rests.found.items;
}
