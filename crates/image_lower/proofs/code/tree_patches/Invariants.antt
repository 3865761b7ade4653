use Rattle.std.proofs.Common.{◌≡◌, ◌≤◌, ◌+◌, ◌*◌, ◌++◌, drop, map, None}
use Rattle.image_lower.specs.Block.{tree_patches, tree_out_of_reach}
use Rattle.image_lower.proofs.code.tree_patches.Given as goal

abbrev pub invariant-loop-note : goal.invariant-loop-note
invariant-loop-note l = record {
  patches : l.patches.items ++ tree_patches l.view l.at (map (λ n. n.now) (drop l.note-index l.sorted)) ≡ tree_patches l.view l.fn.base (map (λ n. n.now) l.sorted);
  near : tree_out_of_reach l.view l.at (map (λ n. n.now) (drop l.note-index l.sorted)) ≡ None;
  low : l.at ≤ l.fn.base + 2552 * l.note-index;
}
