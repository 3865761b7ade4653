use Rattle.std.proofs.Common.{ap, length, List, ℕ, arith}
use Rattle.scale_base.proofs.Laws.{has_table}
use Rattle.elf_patch.proofs.added.change.Goals as goal

pub move_sections-requires-clause-header : goal.move_sections-requires-clause-header
move_sections-requires-clause-header c = rw c.file-file.ensures.bytes (has_table _ _ c.file-file.ensures.image).long

pub move_sections-requires-clause-room : goal.move_sections-requires-clause-room
move_sections-requires-clause-room c = let same = ap (λ (xs : List ℕ). length xs) c.requires in let long = (has_table _ _ c.file-file.ensures.image).long in omega (arith, same, long)
