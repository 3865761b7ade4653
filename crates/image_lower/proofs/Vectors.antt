-- The worked jump to a tree, and the worked far jump, by the definitions.
use Rattle.std.proofs.Common.{◌≡◌, pos, refl}
use Rattle.scale_base.specs.declared.instruction.Instr.TheVariants as instr
use Rattle.scale_base.specs.Word.{word_of}
use Rattle.rv_encode.specs.Jumps.{distance}
use Rattle.image_lower.specs.FarJumps.{far_target}
use Rattle.stub_writer.specs.Stubs.{jump}

to_tree : word_of (jump 0x10008 0x11000) ≡ 0x7F90006F
to_tree = refl

near : word_of (instr.Jal 1 (distance 0x10004 (far_target 0x10000 0 (pos 16)))) ≡ 0x00C000EF
near = refl
