use Rattle.std.proofs.Common.{ap, ◌∙◌}
use Rattle.scale_base.specs.declared.instruction.Instr.TheVariants.{Lui}
use Rattle.foreign_scan.specs.Parts.{upper_of}
use Rattle.foreign_scan.proofs.reading.upper.Goals as goal

pub returns : goal.returns
returns c = λ rd imm h. c.upper.ensures ∙ ap upper_of ((c.instr.ensures (Lui rd imm)).1 h)
