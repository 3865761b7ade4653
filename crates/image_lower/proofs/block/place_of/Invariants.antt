use Rattle.std.proofs.Common.{◌≡◌, ◌++◌, map, take, drop}
use Rattle.jump_lists.specs.declared.notes.JumpNote.{JumpNote}
use Rattle.image_lower.specs.Block.{insert_note}
use Rattle.image_lower.proofs.block.place_of.Given as goal

abbrev pub invariant-loop-k : goal.invariant-loop-k
invariant-loop-k l = (note : JumpNote) → note.at ≡ l.at → insert_note (map (λ n. n.now) l.sorted) note ≡ take l.k (map (λ n. n.now) l.sorted) ++ insert_note (drop l.k (map (λ n. n.now) l.sorted)) note
