use Rattle.std.proofs.Common.{◌≡◌, ◌*◌, take, length}
use Rattle.std.specs.List.{flat_map}
use Rattle.scale_base.specs.Word.{word_of}
use Rattle.elf_patch.specs.Stored.{little}
use Rattle.versioned_images.proofs.making.code_bytes.Given as goal

abbrev pub invariant-loop-instr : goal.invariant-loop-instr
invariant-loop-instr l = record { bytes : l.out.items ≡ flat_map (λ i. little 4 (word_of i)) (take l.instr-index l.code); len : length l.out.items ≡ 4 * l.instr-index }
