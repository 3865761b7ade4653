use Rattle.std.proofs.Common.{◌≡◌, ℕ, ◌+◌, ◌<◌, ◌≤◌, length, count_ones}
use Rattle.std.specs.Prelude.{slice_index}
use Rattle.loop_tree.proofs.natural.groups.add_group.Given as goal

abbrev pub invariant-loop-node : goal.invariant-loop-node
invariant-loop-node l = record {
  size : length l.depths ≡ length l.fn.depths;
  done : (i : ℕ) → i < l.node → i < length l.fn.depths → slice_index l.depths i ≡ slice_index l.fn.depths i + count_ones (slice_index l.bodies i);
  rest : (i : ℕ) → l.node ≤ i → slice_index l.depths i ≡ slice_index l.fn.depths i;
}
