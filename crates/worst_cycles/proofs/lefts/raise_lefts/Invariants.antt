use Rattle.std.proofs.Common.{◌≡◌, ℕ, ◌^◌, ◌<◌, ◌≤◌, length}
use Rattle.graph_algorithms.specs.Arcs.{number_in_place}
use Rattle.worst_cycles.proofs.LeftLaws.{AreRaisedTo}
use Rattle.worst_cycles.proofs.lefts.raise_lefts.Given as goal

abbrev pub invariant-loop-m : goal.invariant-loop-m
invariant-loop-m l = record {
  size : length l.left.items ≡ length l.fn.left.items;
  small : (k : ℕ) → k < length l.left.items → number_in_place l.left.items k ≤ 2 ^ 50;
  raised : AreRaisedTo l.plan l.rests l.header l.iteration l.m l.fn.left.items l.left.items;
}
