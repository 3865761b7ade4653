use Rattle.std.proofs.Common.{ap, ◌∙◌}
use Rattle.scale_base.specs.declared.instruction.Instr.TheVariants.{Load}
use Rattle.foreign_scan.specs.Parts.{load_offset_of}
use Rattle.foreign_scan.proofs.reading.loaded_offset.Goals as goal

pub returns : goal.returns
returns c = λ op rd rs1 offset h. c.load_offset.ensures ∙ ap load_offset_of ((c.instr.ensures (Load op rd rs1 offset)).1 h)
