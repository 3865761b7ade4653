use Rattle.std.proofs.Common.{ap, ◌∙◌}
use Rattle.scale_base.specs.declared.instruction.Instr.TheVariants.{Store}
use Rattle.foreign_scan.specs.Parts.{store_offset_of}
use Rattle.foreign_scan.proofs.reading.stored_offset.Goals as goal

pub returns : goal.returns
returns c = λ op rs1 rs2 offset h. c.store_offset.ensures ∙ ap store_offset_of ((c.instr.ensures (Store op rs1 rs2 offset)).1 h)
