use Rattle.std.proofs.Common.{◌≡◌, ◌≤◌, ◌+◌, ◌*◌, ◌++◌, drop, map, length, None, All}
use Rattle.scale_base.specs.Word.{FieldsInRange}
use Rattle.image_lower.specs.Block.{trees_code, tree_out_of_reach}
use Rattle.image_lower.proofs.code.trees_code.Given as goal

abbrev pub invariant-loop-note : goal.invariant-loop-note
invariant-loop-note l = record {
  code : l.code.items ++ trees_code l.view l.at (map (λ n. n.now) (drop l.note-index l.sorted)) ≡ trees_code l.view l.fn.base (map (λ n. n.now) l.sorted);
  low : l.at ≤ l.fn.base + 2552 * l.note-index;
  fields : tree_out_of_reach l.view l.fn.base (map (λ n. n.now) l.sorted) ≡ None → All FieldsInRange l.code.items × (tree_out_of_reach l.view l.at (map (λ n. n.now) (drop l.note-index l.sorted)) ≡ None);
  short : length l.code.items ≤ 638 * l.note-index;
}
