use Rattle.std.proofs.Common.{ap, ◌∙◌}
use Rattle.scale_base.specs.declared.instruction.Instr.TheVariants.{Imm}
use Rattle.foreign_scan.specs.Parts.{immediate_number}
use Rattle.foreign_scan.proofs.reading.immediate.Goals as goal

pub returns : goal.returns
returns c = λ op rd rs1 imm h. c.number.ensures ∙ ap immediate_number ((c.instr.ensures (Imm op rd rs1 imm)).1 h)
