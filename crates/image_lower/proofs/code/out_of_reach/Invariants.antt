use Rattle.std.proofs.Common.{◌≡◌, ◌≤◌, ◌+◌, ◌*◌, drop, map}
use Rattle.image_lower.specs.Block.{tree_out_of_reach}
use Rattle.image_lower.proofs.code.out_of_reach.Given as goal

abbrev pub invariant-loop-note : goal.invariant-loop-note
invariant-loop-note l = record {
  far : tree_out_of_reach l.view l.at (map (λ n. n.now) (drop l.note-index l.sorted)) ≡ tree_out_of_reach l.view l.fn.base (map (λ n. n.now) l.sorted);
  low : l.at ≤ l.fn.base + 2552 * l.note-index;
}
