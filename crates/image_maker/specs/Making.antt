-- The program that is made from a number, as lines of assembly. It reads 256 bytes, goes through some blocks and writes four bytes.
use Rattle.std.specs.Prelude.{ℕ, ℤ, zero, suc, pos, negsuc, ◌+◌, ◌*◌, ◌%◌, ◌==◌, List, [], ◌∷◌, ◌++◌, length, replicate, if◌then◌else◌}
use Rattle.scale_base.specs.declared.instruction.BranchOp.{BranchOp}
use Rattle.scale_base.specs.declared.instruction.BranchOp.TheVariants.{Beq, Blt}
use Rattle.scale_base.specs.declared.instruction.LoadOp.TheVariants.{Lbu}
use Rattle.scale_base.specs.declared.instruction.StoreOp.TheVariants.{Sw}
use Rattle.scale_base.specs.declared.instruction.ImmOp.TheVariants.{Addi, Andi}
use Rattle.scale_base.specs.declared.instruction.RegOp.TheVariants.{Mul, Div}
use Rattle.scale_base.specs.declared.instruction.Instr.TheVariants.{Jalr, Branch, Load, Store, Imm, Reg, Ecall}
use Rattle.image_maker.specs.declared.line.Line.{Line}
use Rattle.image_maker.specs.declared.line.Line.TheVariants.{Label, Op, JalTo}
use Rattle.image_maker.specs.Drawing.{next, drawn}

-- ---- lines

-- addi rd,rs1,n
abbrev pub addi : ℕ → ℕ → ℤ → Line
addi rd rs1 n = Op (Imm Addi rd rs1 n)

-- mul x9,x9,x8 and div x6,x6,x8
abbrev pub mul : Line
mul = Op (Reg Mul 9 9 8)

abbrev pub div : Line
div = Op (Reg Div 6 6 8)

-- lbu x5,q(x18)
abbrev pub lbu : ℕ → Line
lbu q = Op (Load Lbu 5 18 (pos q))

-- a branch by so many bytes
abbrev pub branch : BranchOp → ℕ → ℕ → ℤ → Line
branch op rs1 rs2 n = Op (Branch op rs1 rs2 n)

-- ---- the parts of the program

-- sets x8 to 3, x9 to 1 and x18 to 1024 bytes below the stack pointer, and reads 256 bytes to there (service 63)
abbrev pub opening : List Line
opening =
    addi 8 0 (pos 3) ∷ addi 9 0 (pos 1) ∷ addi 18 2 (negsuc 1023) ∷ addi 10 0 (pos 0) ∷ addi 11 18 (pos 0) ∷ addi 12 0 (pos 256)
    ∷ addi 17 0 (pos 63) ∷ Op Ecall ∷ []

-- writes the four bytes of x9 (service 64) and exits with status 0 (service 93)
abbrev pub closing : List Line
closing =
    Op (Store Sw 18 9 (pos 0)) ∷ addi 10 0 (pos 1) ∷ addi 11 18 (pos 0) ∷ addi 12 0 (pos 4) ∷ addi 17 0 (pos 64) ∷ Op Ecall
    ∷ addi 10 0 (pos 0) ∷ addi 17 0 (pos 93) ∷ Op Ecall ∷ []

-- function j multiplies j + 1 times and returns
abbrev pub leaf_function : ℕ → List Line
leaf_function j = Label j ∷ (replicate (j + 1) mul ++ Op (Jalr 0 1 (pos 0)) ∷ [])

abbrev pub leaf_functions : List Line
leaf_functions = leaf_function 0 ++ (leaf_function 1 ++ (leaf_function 2 ++ leaf_function 3))

-- so many divisions, which are skipped where byte q is 0
abbrev pub skipped : ℕ → ℕ → List Line
skipped q n = lbu q ∷ branch Beq 5 0 (pos (4 * (n + 1))) ∷ replicate n div

-- a loop that counts down from the low four bits of byte q
abbrev pub loop : ℕ → List Line
loop q =
    lbu q ∷ Op (Imm Andi 5 5 (pos 15)) ∷ addi 9 9 (pos 3) ∷ addi 5 5 (negsuc 0) ∷ branch Blt 0 5 (negsuc 7) ∷ []

-- ---- blocks

-- the kind of a block that begins at a state of the sequence
abbrev pub kind : ℕ → ℕ
kind x = drawn x % 4

-- Block k, where the first draw gave this kind, and the next one this number: multiplications, a branch over divisions, a loop, or a
-- call of a function.
unfoldable pub made_block : ℕ → ℕ → ℕ → List Line
made_block k sort n =
    if sort == 0 then replicate (1 + n % 8) mul
    else if sort == 1 then skipped (k % 256) (1 + n % 16)
    else if sort == 2 then loop (k % 256)
    else JalTo 1 (n % 4) ∷ []

abbrev pub block : ℕ → ℕ → List Line
block k x = made_block k (kind x) (drawn (next x))

-- the state behind a block: a loop takes no second draw
abbrev pub state_behind : ℕ → ℕ
state_behind x = if kind x == 2 then next x else next (next x)

-- the state as block k begins, and the lines of the first k blocks
abbrev pub state_at : ℕ → ℕ → ℕ
state_at number zero = number
state_at number (suc k) = state_behind (state_at number k)

abbrev pub blocks : ℕ → ℕ → List Line
blocks number zero = []
blocks number (suc k) = blocks number k ++ block k (state_at number k)

-- the lines of the program with so many blocks
abbrev pub program : ℕ → ℕ → List Line
program number size = opening ++ blocks number size ++ closing ++ leaf_functions

-- ---- loops

-- The header of a loop is its third line: the addition to x9. Here so many lines stand before the block; all have a word.
abbrev pub header_in : ℕ → ℕ → List ℕ
header_in before x = if kind x == 2 then (0x10000 + 4 * (before + 2)) ∷ [] else []

-- the headers of the loops in the first k blocks
abbrev pub headers : ℕ → ℕ → List ℕ
headers number zero = []
headers number (suc k) = headers number k ++ header_in (length (opening ++ blocks number k)) (state_at number k)
