-- Which pieces and sites fit a text: each leads on to what stands for the instruction that follows in the text.
use Rattle.std.specs.Prelude.{ℕ, ℤ, pos, negsuc, zero, suc, ◌+◌, ◌%◌, ◌^◌, ◌==◌, ◌&&◌, not, nat_lt, count_by, Bool, true, false, List, [], ◌∷◌, length, Option, Some, None, ◌++◌, nat_le, if◌then◌else◌}
use Rattle.std.specs.List.{list_all}
use Rattle.std.specs.Ordering.{int_eq}
use Rattle.scale_base.specs.declared.instruction.Instr.{Instr}
use Rattle.scale_base.specs.declared.instruction.Instr.TheVariants as instr
use Rattle.scale_base.specs.Arith.{plus, moved_by}
use Rattle.scale_base.specs.Image.{Image, is_word_address}
use Rattle.rv_encode.specs.Jumps.{distance}
use Rattle.stub_writer.specs.Stubs.{jump}
use Rattle.image_lower.specs.FarJumps.{is_in_table}
use Rattle.image_lower.specs.Trees.{fits}
use Rattle.loop_versions.specs.declared.pieces.Piece.{Piece}
use Rattle.loop_versions.specs.declared.pieces.Piece.TheVariants.{Copied, Branched, Jumped, Bridge, Guard, Entered, Returned}
use Rattle.loop_versions.specs.declared.pieces.Site.{Site}
use Rattle.loop_versions.specs.Pieces.{origin_of, behind, piece_at, site_at, read}

-- an instruction that doesn't read the pc, and behind which the next one follows, if any does
abbrev pub is_plain : Option Instr → Bool
is_plain None = false
is_plain (Some (instr.Lui rd imm)) = true
is_plain (Some (instr.Auipc rd imm)) = false
is_plain (Some (instr.Jal rd offset)) = false
is_plain (Some (instr.Jalr rd rs1 offset)) = false
is_plain (Some (instr.Branch op rs1 rs2 offset)) = false
is_plain (Some (instr.Load op rd rs1 offset)) = true
is_plain (Some (instr.Store op rs1 rs2 offset)) = true
is_plain (Some (instr.Imm op rd rs1 imm)) = true
is_plain (Some (instr.Reg op rd rs1 rs2)) = true
is_plain (Some (instr.Fence rd rs1 imm)) = true
is_plain (Some instr.Ecall) = true
is_plain (Some instr.Ebreak) = false

-- an offset that a branch can have: even, and of 13 bits
abbrev pub is_branch_offset : ℤ → Bool
is_branch_offset (pos n) = (n % 2 == 0) && nat_lt n (2 ^ 12)
is_branch_offset (negsuc n) = (n % 2 == 1) && nat_lt n (2 ^ 12)

-- the addresses to which a guard or a bridge leads
abbrev pub ways_of : (place : ℕ) → Piece → List ℕ
ways_of place (Copied at) = []
ways_of place (Branched at to) = []
ways_of place (Jumped at to) = []
ways_of place (Bridge at to) = to ∷ []
ways_of place (Guard at larger smaller limit to) = (place + 36) ∷ to ∷ []
ways_of place (Entered at to end) = []
ways_of place (Returned at to) = []

abbrev pub ways_of_site : Option Site → List ℕ
ways_of_site None = []
ways_of_site (Some s) = s.to ∷ []

-- those of a piece, or of a site
abbrev pub ways_by : (place : ℕ) → Option Piece → Option Site → List ℕ
ways_by place (Some p) site = ways_of place p
ways_by place None site = ways_of_site site

-- a way is free where no more than n bridges, guards and sites stand on it
abbrev pub is_free : (ℕ → List ℕ) → (n : ℕ) → ℕ → Bool
is_free ways zero v = false
is_free ways (suc n) v = list_all (is_free ways n) (ways v)

module _ (pieces : List Piece) (base : ℕ) where
  -- the address for which an address stands: that of a piece for the one of its instruction in the text, every other one for itself
  abbrev pub origin_by : Option Piece → ℕ → ℕ
  origin_by (Some p) v = origin_of p
  origin_by None v = v

  abbrev pub origin : ℕ → ℕ
  origin v = origin_by (piece_at base pieces v) v

  abbrev pub stands_for : ℕ → ℕ → Bool
  stands_for v at = origin v == at

-- ---- inlined calls

-- the address behind a call that is entered, where an address lies in the copy of what it calls
abbrev pub call_round : Piece → ℕ → List ℕ
call_round (Copied at) v = []
call_round (Branched at to) v = []
call_round (Jumped at to) v = []
call_round (Bridge at to) v = []
call_round (Guard at larger smaller limit to) v = []
call_round (Entered at to end) v = if nat_le to v && nat_lt v end then plus at 4 ∷ [] else []
call_round (Returned at to) v = []

-- all of them, the innermost first: what is called in a copy is entered by a piece that stands behind the one that enters the copy
abbrev pub calls_round : List Piece → ℕ → List ℕ
calls_round [] v = []
calls_round (p ∷ ps) v = calls_round ps v ++ call_round p v

abbrev pub calls_by : Option Piece → List ℕ → List ℕ
calls_by None rs = []
calls_by (Some p) rs = rs

-- a list begins with another one
abbrev pub begins : List ℕ → List ℕ → Bool
begins [] ys = true
begins (x ∷ xs) [] = false
begins (x ∷ xs) (y ∷ ys) = (x == y) && begins xs ys

module _ (pieces : List Piece) (base : ℕ) where
  -- the return addresses of the inlined calls that an address lies in: none of one that isn't that of a piece
  abbrev pub calls_at : ℕ → List ℕ
  calls_at v = calls_by (piece_at base pieces v) (calls_round pieces v)

  -- where a way leads from a place, no other inlined calls are open than those at the place
  abbrev pub stays_in : (place to : ℕ) → Bool
  stays_in place to = begins (calls_at to) (calls_at place)

-- `jalr x0,0(x1)`
abbrev pub is_return : Option Instr → Bool
is_return (Some (instr.Jalr rd rs1 offset)) = (rd == 0) && (rs1 == 1) && int_eq offset (pos 0)
is_return i = false

-- a piece enters a call
abbrev pub is_entered : Piece → Bool
is_entered (Copied at) = false
is_entered (Branched at to) = false
is_entered (Jumped at to) = false
is_entered (Bridge at to) = false
is_entered (Guard at larger smaller limit to) = false
is_entered (Entered at to end) = true
is_entered (Returned at to) = false

-- a piece stands for the return at an address
abbrev pub is_returned : ℕ → Piece → Bool
is_returned v (Copied at) = false
is_returned v (Branched at to) = false
is_returned v (Jumped at to) = false
is_returned v (Bridge at to) = false
is_returned v (Guard at larger smaller limit to) = false
is_returned v (Entered at to end) = false
is_returned v (Returned at to) = at == v

-- ---- pieces

-- two registers, of which the larger isn't x0, and a limit that an ADDI can take off
abbrev pub is_guard : (larger smaller limit : ℕ) → Bool
is_guard larger smaller limit =
    nat_lt 0 larger && nat_lt larger 32 && nat_lt smaller 32 && not (larger == smaller) && nat_lt 0 limit && nat_lt limit 2048

module _ (pieces : List Piece) (base : ℕ) where
  -- a guard, both of whose ways stand for its instruction
  abbrev pub is_guard_right : (place at larger smaller limit to : ℕ) → Bool
  is_guard_right place at larger smaller limit to =
      is_guard larger smaller limit && stands_for pieces base (place + 36) at && stands_for pieces base to at && fits (jump (place + 24) to)

module _ (image : Image) (pieces : List Piece) (base : ℕ) where
  -- the target of a jump is a word of the text, and a way leads to what stands for it
  abbrev pub leads_to : (to target : ℕ) → Bool
  leads_to to target = is_word_address image target && stands_for pieces base to target

  abbrev pub is_branch_right : (place at to : ℕ) → Option Instr → Bool
  is_branch_right place at to (Some (instr.Branch op rs1 rs2 offset)) =
      leads_to to (moved_by at offset) && stands_for pieces base (place + 4) (at + 4) && is_branch_offset (distance place to)
  is_branch_right place at to i = false

  abbrev pub is_jump_right : (at to : ℕ) → Option Instr → Bool
  is_jump_right at to (Some (instr.Jal rd offset)) = (rd == 0) && leads_to to (moved_by at offset)
  is_jump_right at to i = false

  -- a `jal x1` to what a way leads to, where no other inlined calls are open than this one and those at the place
  abbrev pub is_call_right : (place at to : ℕ) → Option Instr → Bool
  is_call_right place at to (Some (instr.Jal rd offset)) =
      (rd == 1) && leads_to to (moved_by at offset) && begins (calls_at pieces base to) (plus at 4 ∷ calls_at pieces base place)
  is_call_right place at to i = false

  -- a `jalr x0,0(x1)` in an inlined call, where the way leads behind that one
  abbrev pub is_back : (to : ℕ) → List ℕ → Bool
  is_back to [] = false
  is_back to (r ∷ rs) = leads_to to r && begins (calls_at pieces base to) rs

  abbrev pub is_return_right : (place to : ℕ) → Option Instr → Bool
  is_return_right place to i = is_return i && is_back to (calls_at pieces base place)

  -- an instruction that reads no pc, and what follows it
  abbrev pub is_copy_right : (place at : ℕ) → Option Instr → Bool
  is_copy_right place at i = is_plain i && stands_for pieces base (place + 4) (at + 4) && stays_in pieces base place (place + 4)

  abbrev pub is_right : (place : ℕ) → Piece → Bool
  is_right place (Copied at) = is_copy_right place at (read image at)
  is_right place (Branched at to) =
      is_branch_right place at to (read image at) && stays_in pieces base place (place + 4) && stays_in pieces base place to
  is_right place (Jumped at to) = is_jump_right at to (read image at) && fits (jump place to) && stays_in pieces base place to
  is_right place (Bridge at to) = stands_for pieces base to at && fits (jump place to) && stays_in pieces base place to
  is_right place (Guard at larger smaller limit to) =
      is_guard_right pieces base place at larger smaller limit to && stays_in pieces base place (place + 36)
      && stays_in pieces base place to
  is_right place (Entered at to end) = is_call_right place at to (read image at) && fits (jump (place + 8) to)
  is_right place (Returned at to) = is_return_right place to (read image at) && fits (jump place to)

  abbrev pub are_right : (place : ℕ) → List Piece → Bool
  are_right place [] = true
  are_right place (p ∷ ps) = is_word_address image (origin_of p) && is_right place p && are_right (behind place p) ps

-- ---- ways on

module _ (pieces : List Piece) (sites : List Site) (base : ℕ) where
  abbrev pub ways : ℕ → List ℕ
  ways v = ways_by v (piece_at base pieces v) (site_at sites v)

  abbrev pub are_free : (place : ℕ) → List Piece → Bool
  are_free place [] = true
  are_free place (p ∷ ps) = is_free ways 8 place && are_free (behind place p) ps

-- ---- sites, and all

-- the entry is a word of the text, so that no run begins in the block, and there is a piece
abbrev pub are_there : Image → List Piece → Bool
are_there image pieces = is_word_address image image.entry && nat_lt 0 (length pieces)

module _ (image : Image) (pieces : List Piece) (sites : List Site) (base : ℕ) where
  -- a word of the text outside the program header table, once among the sites, and what its jump leads to stands for it
  abbrev pub is_site_right : Site → Bool
  is_site_right s =
      is_word_address image s.at && not (is_in_table image.file s.at) && (count_by (λ (o : Site). o.at == s.at) sites == 1)
      && stands_for pieces base s.to s.at && stays_in pieces base s.at s.to && fits (jump s.at s.to)

  -- Pieces and sites fit where each is right, and on no way stand more than seven bridges, guards and sites.
  unfoldable pub are_fit : Bool
  are_fit = are_there image pieces && are_right image pieces base base pieces && list_all is_site_right sites
      && are_free pieces sites base base pieces && list_all (λ (s : Site). is_free (ways pieces sites base) 8 s.at) sites
