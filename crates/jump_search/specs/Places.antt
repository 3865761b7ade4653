-- Which words of a text are jumps through registers.
use Rattle.std.specs.Prelude.{ℕ, pos, ◌==◌, ◌&&◌, not, Bool, false, Option, Some, option_and_then}
use Rattle.std.specs.Ordering.{int_eq}
use Rattle.scale_base.specs.declared.instruction.Instr.{Instr}
use Rattle.scale_base.specs.declared.instruction.Instr.TheVariants as instr
use Rattle.scale_base.specs.Reading.{instr_of}
use Rattle.scale_base.specs.Image.{Image, text_word}

-- a JALR, but for the return `jalr x0,0(x1)`
abbrev pub is_register_jump : Option Instr → Bool
is_register_jump (Some (instr.Jalr rd rs offset)) = not ((rd == 0) && (rs == 1) && int_eq offset (pos 0))
is_register_jump i = false

-- one stands at an address of the text
abbrev pub stands_at : Image → ℕ → Bool
stands_at image at = is_register_jump (option_and_then instr_of (text_word image at))
