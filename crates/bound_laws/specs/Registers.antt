-- What instructions do to one register. RISC-V Unprivileged ISA, RV32I: an instruction writes its rd alone, and ECALL the answer of its
-- service, which the RISC-V ABIs Specification puts into a0, that is x10.
use Rattle.std.specs.Prelude.{ℕ, ◌+◌, ◌*◌, ◌%◌, ◌^◌, ◌==◌, ◌&&◌, ◌||◌, not, Bool, false, List, Option, Some, None, option_and_then, if◌then◌else◌}
use Rattle.scale_base.specs.declared.instruction.ImmOp.TheVariants.{Addi}
use Rattle.scale_base.specs.declared.instruction.Instr.{Instr}
use Rattle.scale_base.specs.declared.instruction.Instr.TheVariants.{Lui, Auipc, Jal, Jalr, Branch, Load, Store, Imm, Reg, Fence, Ecall, Ebreak}
use Rattle.scale_base.specs.Arith.{unsigned}
use Rattle.scale_base.specs.State.{reg}
use Rattle.code_text.specs.Text.{Text, instr_at}

-- whether the instruction writes the register
abbrev pub writes : ℕ → Instr → Bool
writes r (Lui rd imm) = rd == r
writes r (Auipc rd imm) = rd == r
writes r (Jal rd offset) = rd == r
writes r (Jalr rd rs1 offset) = rd == r
writes r (Branch op rs1 rs2 offset) = false
writes r (Load op rd rs1 offset) = rd == r
writes r (Store op rs1 rs2 offset) = false
writes r (Imm op rd rs1 imm) = rd == r
writes r (Reg op rd rs1 rs2) = rd == r
writes r (Fence rd rs1 imm) = false
writes r Ecall = 10 == r
writes r Ebreak = false

-- whether it leaves the register as it is; x0 is never changed
abbrev pub keeps : ℕ → Instr → Bool
keeps r i = (r == 0) || not (writes r i)

-- A number that goes with two registers: a sum of multiples of them and of a shift, modulo 2^32. The factor 2^32 - 1 stands for -1, so the
-- difference of two registers is one. A single register goes with x0 as the other one.
pub record Measure : Type 0 where
  pub register : ℕ
  pub factor : ℕ
  pub other : ℕ
  pub other_factor : ℕ
  pub shift : ℕ

abbrev pub measured : Measure → List ℕ → ℕ
measured m regs = (m.shift + m.factor * reg regs m.register + m.other_factor * reg regs m.other) % 2 ^ 32

-- what `addi r,r,imm` adds to a multiple of r. No other instruction that writes r has a known effect.
abbrev pub added : ℕ → ℕ → Instr → Option ℕ
added r factor (Imm Addi rd rs1 imm) = if (rd == r) && (rs1 == r) then Some (factor * unsigned imm % 2 ^ 32) else None
added r factor i = None

-- what an instruction adds to the measure, modulo 2^32, where that is known
abbrev pub effect : Measure → Instr → Option ℕ
effect m i =
    if keeps m.register i && keeps m.other i then Some 0
    else if keeps m.other i then added m.register m.factor i
    else if keeps m.register i then added m.other m.other_factor i
    else None

-- the same of the instruction at an address
abbrev pub effect_at : Text → Measure → ℕ → Option ℕ
effect_at t m v = option_and_then (effect m) (instr_at t v)
