-- The instructions of each fragment. t0 is x5, and t1 is x6 (RISC-V ABIs Specification, integer registers).
use Rattle.std.specs.Prelude.{ℕ, Bool, cond, ℤ, pos, negsuc, ◌<◌, ◌≤◌, ◌+◌, ◌-◌, ◌*◌, ◌/◌, ◌%◌, ◌^◌, List, [], ◌∷◌, length}
use Rattle.scale_base.specs.declared.instruction.LoadOp.TheVariants.{Lw}
use Rattle.scale_base.specs.declared.instruction.StoreOp.TheVariants.{Sw}
use Rattle.scale_base.specs.declared.instruction.ImmOp.TheVariants.{Addi, Andi, Slli, Srli, Srai}
use Rattle.scale_base.specs.declared.instruction.RegOp.TheVariants.{Add, Srl}
use Rattle.scale_base.specs.declared.instruction.Instr.{Instr}
use Rattle.scale_base.specs.declared.instruction.Instr.TheVariants as instrs
use Rattle.scale_base.specs.Reading.{signed_of}
use Rattle.scale_base.specs.Step.{port_index}
use Rattle.scale_base.specs.declared.fragments.Fragment.{Fragment}
use Rattle.scale_base.specs.declared.fragments.Fragment.TheVariants.{Switch, Exit, Reset, Count, Lowest, Tally}

abbrev pub t0 : ℕ
t0 = 5

abbrev pub t1 : ℕ
t1 = 6

-- the window's word of the speed port
abbrev pub port : ℕ
port = port_index

-- the two parts of a number: a LUI and an added number of twelve bits
abbrev pub hi : ℕ → ℕ
hi c = (c + 0x800) % 2 ^ 32 / 2 ^ 12 * 2 ^ 12

abbrev pub lo : ℕ → ℤ
lo c = signed_of 12 (c % 2 ^ 12)

-- where the window's word k lies, seen from x0: at -2048 + 4 * k
abbrev pub slot : ℕ → ℤ
slot k = negsuc (2047 - 4 * k)

-- sw and lw between a register and a word of the window
abbrev pub sw : (r k : ℕ) → Instr
sw r k = instrs.Store Sw 0 r (slot k)

abbrev pub lw : (r k : ℕ) → Instr
lw r k = instrs.Load Lw r 0 (slot k)

abbrev pub switch_code : (word : ℕ) → List Instr
switch_code word =
    sw t0 0
    ∷ sw t1 1
    ∷ lw t0 port
    ∷ instrs.Imm Slli t0 t0 (pos 2)
    ∷ instrs.Lui t1 (hi word)
    ∷ instrs.Imm Addi t1 t1 (lo word)
    ∷ instrs.Reg Srl t1 t1 t0
    ∷ instrs.Imm Andi t1 t1 (pos 15)
    ∷ sw t1 port
    ∷ lw t1 1
    ∷ lw t0 0
    ∷ []

abbrev pub exit_code : (counter shift table : ℕ) → List Instr
exit_code counter shift table =
    sw t0 0
    ∷ sw t1 1
    ∷ lw t0 counter
    ∷ instrs.Imm Srli t0 t0 (pos shift)
    ∷ instrs.Imm Slli t0 t0 (pos 2)
    ∷ instrs.Lui t1 (hi table)
    ∷ instrs.Reg Add t0 t0 t1
    ∷ instrs.Load Lw t1 t0 (lo table)
    ∷ lw t0 port
    ∷ instrs.Imm Slli t0 t0 (pos 2)
    ∷ instrs.Reg Srl t1 t1 t0
    ∷ instrs.Imm Andi t1 t1 (pos 15)
    ∷ sw 0 counter
    ∷ sw t1 port
    ∷ lw t1 1
    ∷ lw t0 0
    ∷ []

abbrev pub count_code : (counter : ℕ) → List Instr
count_code counter =
    sw t0 0
    ∷ lw t0 counter
    ∷ instrs.Imm Addi t0 t0 (pos 1)
    ∷ sw t0 counter
    ∷ lw t0 0
    ∷ []

abbrev pub reset_code : (counter : ℕ) → List Instr
reset_code counter = sw 0 counter ∷ []

-- level 0 at the port; or where it may not be, the same store to the save slot of t1
abbrev pub lowest_code : (down : Bool) → List Instr
lowest_code down = sw 0 (cond down port 1) ∷ []

-- t0 is the shifted count less `from`. Of its sign -2040 or 0 is made: what lies between the port and the save slot of t1, where 0 is stored as long as it is negative.
abbrev pub tally_code : (counter shift from : ℕ) → List Instr
tally_code counter shift from =
    sw t0 0
    ∷ lw t0 counter
    ∷ instrs.Imm Addi t0 t0 (pos 1)
    ∷ sw t0 counter
    ∷ instrs.Imm Srli t0 t0 (pos shift)
    ∷ instrs.Imm Addi t0 t0 (negsuc (from - 1))
    ∷ instrs.Imm Srai t0 t0 (pos 31)
    ∷ instrs.Imm Andi t0 t0 (negsuc 2039)
    ∷ instrs.Store Sw t0 0 (negsuc 3)
    ∷ lw t0 0
    ∷ []

-- the instructions of a fragment, of which the rows stand at `table`. Addresses are taken modulo 2 ^ 32
abbrev pub fragment_code : (table : ℕ) → Fragment → List Instr
fragment_code table (Switch word) = switch_code word
fragment_code table (Exit counter shift rows) = exit_code counter shift (table % 2 ^ 32)
fragment_code table (Reset counter) = reset_code counter
fragment_code table (Count counter) = count_code counter
fragment_code table (Lowest down) = lowest_code down
fragment_code table (Tally counter shift from) = tally_code counter shift from

abbrev pub code_len : Fragment → ℕ
code_len (Switch word) = 11
code_len (Exit counter shift rows) = 16
code_len (Reset counter) = 1
code_len (Count counter) = 5
code_len (Lowest down) = 1
code_len (Tally counter shift from) = 10

abbrev pub fragment_rows : Fragment → List ℕ
fragment_rows (Exit counter shift rows) = rows
fragment_rows f = []

abbrev pub rows_len : Fragment → ℕ
rows_len f = length (fragment_rows f)

-- the word of the window is a shadow counter
abbrev pub IsShadow : ℕ → Type 0
IsShadow k = (2 ≤ k) × (k < port)

-- what is asked of a fragment: its counter is one, and its numbers fit
abbrev pub IsFragment : Fragment → Type 0
IsFragment (Switch word) = Unit {0}
IsFragment (Exit counter shift rows) = IsShadow counter × (shift < 32) × (length rows ≤ 16)
IsFragment (Reset counter) = IsShadow counter
IsFragment (Count counter) = IsShadow counter
IsFragment (Lowest down) = Unit {0}
IsFragment (Tally counter shift from) = IsShadow counter × (shift < 32) × (1 ≤ from) × (from < 2048)
