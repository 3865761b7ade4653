use Rattle.std.proofs.Common.{◌≡◌, ◌<◌, ℕ, true, Some, length}
use Rattle.std.specs.Prelude.{◌↔◌, slice_get}
use Rattle.code_graph.specs.Assembling.{IsEntryNode}
use Rattle.code_graph.proofs.blocks.entry_flags.Given as goal

abbrev pub invariant-loop-k : goal.invariant-loop-k
invariant-loop-k l = record {
  size : length l.flags.items ≡ l.k;
  up : (j : ℕ) → j < l.k → (slice_get l.flags.items j ≡ Some true) ↔ IsEntryNode l.nodes.addresses.items l.nodes.owners.items l.functions j;
}
