-- The pieces of copied code: which instruction of the text each stands for, and its own instructions. RISC-V Unprivileged ISA, RV32I. Loop versioning
-- is the optimisation of compilers: a loop is there twice, and a test in front of it chooses between the copies.
use Rattle.std.specs.Prelude.{ℕ, pos, negsuc, ◌+◌, ◌-◌, ◌*◌, ◌==◌, ◌&&◌, ◌||◌, nat_le, nat_lt, Bool, true, false, List, [], ◌∷◌, ◌++◌, Option, Some, None, if◌then◌else◌}
use Rattle.std.specs.List.{list_any}
use Rattle.scale_base.specs.declared.instruction.BranchOp.TheVariants.{Blt}
use Rattle.scale_base.specs.declared.instruction.ImmOp.TheVariants.{Addi}
use Rattle.scale_base.specs.declared.instruction.RegOp.TheVariants.{Add, Sub}
use Rattle.scale_base.specs.declared.instruction.Instr.{Instr}
use Rattle.scale_base.specs.declared.instruction.Instr.TheVariants as instr
use Rattle.scale_base.specs.Arith.{plus}
use Rattle.scale_base.specs.Image.{Image}
use Rattle.code_text.specs.Text.{text_of, instr_at}
use Rattle.rv_encode.specs.Jumps.{distance}
use Rattle.stub_writer.specs.Fragments.{hi, lo}
use Rattle.stub_writer.specs.Stubs.{jump}
use Rattle.loop_versions.specs.declared.pieces.Piece.{Piece}
use Rattle.loop_versions.specs.declared.pieces.Piece.TheVariants.{Copied, Branched, Jumped, Bridge, Guard, Entered, Returned}
use Rattle.loop_versions.specs.declared.pieces.Site.{Site}

-- ---- what a piece stands for, and where it stands

-- the address of the instruction of the text
abbrev pub origin_of : Piece → ℕ
origin_of (Copied at) = at
origin_of (Branched at to) = at
origin_of (Jumped at to) = at
origin_of (Bridge at to) = at
origin_of (Guard at larger smaller limit to) = at
origin_of (Entered at to end) = at
origin_of (Returned at to) = at

-- its number of instructions
abbrev pub piece_len : Piece → ℕ
piece_len (Copied at) = 1
piece_len (Branched at to) = 1
piece_len (Jumped at to) = 1
piece_len (Bridge at to) = 1
piece_len (Guard at larger smaller limit to) = 9
piece_len (Entered at to end) = 3
piece_len (Returned at to) = 1

-- the place behind a piece
abbrev pub behind : (place : ℕ) → Piece → ℕ
behind place p = place + 4 * piece_len p

-- the piece that begins at an address, of pieces that stand one behind the other from a place on
abbrev pub piece_at : (place : ℕ) → List Piece → ℕ → Option Piece
piece_at place [] v = None
piece_at place (p ∷ ps) v = if v == place then Some p else piece_at (behind place p) ps v

abbrev pub site_at : List Site → ℕ → Option Site
site_at [] v = None
site_at (s ∷ ss) v = if v == s.at then Some s else site_at ss v

-- ---- its instructions

-- The difference is made; where it is negative, the first branch leads to where the smaller register is added again, in front of the jump.
-- Else the limit is taken off it; where that is negative, the second branch leads on to the last two instructions. Either way the limit and
-- the smaller register are added again.
abbrev pub guard_code : (place larger smaller limit to : ℕ) → List Instr
guard_code place larger smaller limit to =
    instr.Reg Sub larger larger smaller
    ∷ instr.Branch Blt larger 0 (pos 16)
    ∷ instr.Imm Addi larger larger (negsuc (limit - 1))
    ∷ instr.Branch Blt larger 0 (pos 16)
    ∷ instr.Imm Addi larger larger (pos limit)
    ∷ instr.Reg Add larger larger smaller
    ∷ jump (place + 24) to
    ∷ instr.Imm Addi larger larger (pos limit)
    ∷ instr.Reg Add larger larger smaller
    ∷ []

-- the address behind the call, put into x1, and a jump
abbrev pub enter_code : (place at to : ℕ) → List Instr
enter_code place at to = instr.Lui 1 (hi (plus at 4)) ∷ instr.Imm Addi 1 1 (lo (plus at 4)) ∷ jump (place + 8) to ∷ []

-- the branch with the way from a place to another
abbrev pub led : (place to : ℕ) → Option Instr → List Instr
led place to (Some (instr.Branch op rs1 rs2 offset)) = instr.Branch op rs1 rs2 (distance place to) ∷ []
led place to i = []

abbrev pub copied : Option Instr → List Instr
copied None = []
copied (Some i) = i ∷ []

module _ (image : Image) where
  -- the instruction at an address of the text
  abbrev pub read : ℕ → Option Instr
  read at = instr_at (text_of image) at

  abbrev pub piece_code : (place : ℕ) → Piece → List Instr
  piece_code place (Copied at) = copied (read at)
  piece_code place (Branched at to) = led place to (read at)
  piece_code place (Jumped at to) = jump place to ∷ []
  piece_code place (Bridge at to) = jump place to ∷ []
  piece_code place (Guard at larger smaller limit to) = guard_code place larger smaller limit to
  piece_code place (Entered at to end) = enter_code place at to
  piece_code place (Returned at to) = jump place to ∷ []

  -- the instructions of pieces that stand one behind the other
  abbrev pub pieces_code : (place : ℕ) → List Piece → List Instr
  pieces_code place [] = []
  pieces_code place (p ∷ ps) = piece_code place p ++ pieces_code (behind place p) ps

-- ---- the steps that stand for none of the text

-- how many of the first instructions of a piece: all of a bridge or a guard, and of a call that is entered those that fill x1
abbrev pub extra_len : Piece → ℕ
extra_len (Copied at) = 0
extra_len (Branched at to) = 0
extra_len (Jumped at to) = 0
extra_len (Bridge at to) = 1
extra_len (Guard at larger smaller limit to) = 9
extra_len (Entered at to end) = 2
extra_len (Returned at to) = 0

-- such an instruction stands at the address
abbrev pub in_extra : (place : ℕ) → List Piece → ℕ → Bool
in_extra place [] v = false
in_extra place (p ∷ ps) v = nat_le place v && nat_lt v (place + 4 * extra_len p) || in_extra (behind place p) ps v

abbrev pub is_site : List Site → ℕ → Bool
is_site sites v = list_any (λ s. s.at == v) sites
