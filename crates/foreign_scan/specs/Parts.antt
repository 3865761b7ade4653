-- Scaffold: parts of an instruction that may be one of a kind.
use Rattle.std.specs.Prelude.{ℕ, ℤ, negsuc, Bool, true, false, ◌==◌, if◌then◌else◌, Option, Some, None}
use Rattle.std.specs.Ordering.{int_eq}
use Rattle.scale_base.specs.declared.instruction.Instr.{Instr}
use Rattle.scale_base.specs.declared.instruction.Instr.TheVariants as instr

-- the offset of a store
abbrev pub store_offset_of : Option Instr → Option ℤ
store_offset_of (Some (instr.Store op rs1 rs2 offset)) = Some offset
store_offset_of i = None

-- the offset of a load
abbrev pub load_offset_of : Option Instr → Option ℤ
load_offset_of (Some (instr.Load op rd rs1 offset)) = Some offset
load_offset_of i = None

-- the number of an immediate operation
abbrev pub immediate_number : Option Instr → Option ℤ
immediate_number (Some (instr.Imm op rd rs1 imm)) = Some imm
immediate_number i = None

-- the upper number of a LUI
abbrev pub upper_of : Option Instr → Option ℕ
upper_of (Some (instr.Lui rd imm)) = Some imm
upper_of i = None

-- whether it stores x0
abbrev pub clears : Option Instr → Bool
clears (Some (instr.Store op rs1 rs2 offset)) = rs2 == 0
clears i = false

-- whether it is a load
abbrev pub loads_word : Option Instr → Bool
loads_word (Some (instr.Load op rd rs1 offset)) = true
loads_word i = false

-- whether it loads with the speed port's offset, which is -4
abbrev pub loads_port : Option Instr → Bool
loads_port (Some (instr.Load op rd rs1 offset)) = int_eq offset (negsuc 3)
loads_port i = false

-- the offset of a jump that links no register
abbrev pub goto_of : Option Instr → Option ℤ
goto_of (Some (instr.Jal rd offset)) = if rd == 0 then Some offset else None
goto_of i = None

-- the offset of a branch
abbrev pub branch_offset_of : Option Instr → Option ℤ
branch_offset_of (Some (instr.Branch op rs1 rs2 offset)) = Some offset
branch_offset_of i = None
