-- Scaffold: how an instruction may leave a word of a table in a register.
use Rattle.std.specs.Prelude.{◌≡◌, ℕ, ℤ}
use Rattle.scale_base.specs.Arith.{unsigned}
use Rattle.scale_base.specs.declared.instruction.LoadOp.TheVariants.{Lw}
use Rattle.scale_base.specs.declared.instruction.RegOp.TheVariants.{Add}
use Rattle.scale_base.specs.declared.instruction.Instr.{Instr}
use Rattle.scale_base.specs.declared.instruction.Instr.TheVariants.{Load, Reg}
use Rattle.jump_checks.specs.declared.origins.Origin.{Origin}
use Rattle.jump_checks.specs.declared.origins.Origin.TheVariants.{Loaded, Sum, Other}

-- it loads the register's word by another one and an offset, or adds two registers
abbrev pub IsOrigin : Instr → ℕ → Origin → Type 0
IsOrigin i r (Loaded rs1 more) = (offset : ℤ) × (i ≡ Load Lw r rs1 offset) × (unsigned offset ≡ more)
IsOrigin i r (Sum rs1 rs2) = i ≡ Reg Add r rs1 rs2
IsOrigin i r Other = Unit {0}
