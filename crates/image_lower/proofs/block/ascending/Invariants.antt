use Rattle.std.proofs.Common.{◌≡◌, map, fold, take, []}
use Rattle.image_lower.specs.Block.{insert_note}
use Rattle.image_lower.proofs.block.ascending.Given as goal

abbrev pub invariant-loop-note : goal.invariant-loop-note
invariant-loop-note l = map (λ n. n.now) l.sorted.items ≡ fold insert_note [] (take l.note-index l.notes)
