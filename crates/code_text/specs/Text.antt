-- The text of an image, what is known of x17 in it, and what its words say of the way on. RISC-V Unprivileged ISA, RV32I: a branch goes to
-- its target or to the next word, JAL to its target, JALR to what a register holds, and ECALL asks the environment for the service whose
-- number x17 holds.
use Rattle.std.specs.Prelude.{◌≡◌, ◌≤◌, ◌<◌, ℕ, ℤ, pos, zero, suc, ◌+◌, ◌-◌, ◌*◌, ◌/◌, ◌%◌, ◌==◌, ◌&&◌, ◌||◌, not, nat_le, Bool, true, false, List, All, Option, Some, None, if◌then◌else◌}
use Rattle.std.specs.List.{list_any}
use Rattle.std.specs.Ordering.{int_eq}
use Rattle.scale_base.specs.declared.ranges.Range.{Range}
use Rattle.scale_base.specs.declared.instruction.ImmOp.TheVariants.{Addi}
use Rattle.scale_base.specs.declared.instruction.Instr.{Instr}
use Rattle.scale_base.specs.declared.instruction.Instr.TheVariants as instr
use Rattle.scale_base.specs.Reading.{instr_of}
use Rattle.scale_base.specs.Image.{Image, loaded_byte, is_in}
use Rattle.scale_base.specs.State.{word_at}
use Rattle.scale_base.specs.Arith.{moved_by, imm_result}
use Rattle.cost_theory.specs.Graph.{any_below}
use Rattle.cost_theory.specs.declared.flow.Flow.{Flow}
use Rattle.cost_theory.specs.declared.flow.Flow.TheVariants as flow

-- the entry, the ranges, whose ends are multiples of 4, and the bytes that are loaded
pub record Text : Type 0 where
  pub entry : ℕ
  pub ranges : List Range
  pub bytes : ℕ → ℕ

abbrev pub text_of : Image → Text
text_of image = record { entry = image.entry; ranges = image.text; bytes = loaded_byte image }

abbrev pub is_text_address : Text → ℕ → Bool
is_text_address t v = list_any (λ r. is_in v r) t.ranges

-- the instruction of the word at an address
abbrev pub instr_at : Text → ℕ → Option Instr
instr_at t v = instr_of (word_at t.bytes v)

-- ---- where jumps go

-- the target of a branch or a JAL at u
abbrev pub jump_of : Option Instr → ℕ → Option ℕ
jump_of None u = None
jump_of (Some (instr.Branch op rs1 rs2 offset)) u = Some (moved_by u offset)
jump_of (Some (instr.Jal rd offset)) u = Some (moved_by u offset)
jump_of (Some i) u = None

abbrev pub is_at : Option ℕ → ℕ → Bool
is_at None v = false
is_at (Some u) v = u == v

-- whether a branch or a JAL at an aligned address of the range goes to v
abbrev pub jumps_from : Text → ℕ → Range → Bool
jumps_from t v r = any_below ((r.to - r.from) / 4) (λ i. is_at (jump_of (instr_at t (r.from + 4 * i)) (r.from + 4 * i)) v)

-- whether v is the entry or the target of a branch or a JAL of the text
unfoldable pub is_target : Text → ℕ → Bool
is_target t v = (v == t.entry) || list_any (jumps_from t v) t.ranges

-- ---- known service numbers

-- whether v and the word right before it stand in one range
abbrev pub follows : Text → ℕ → Bool
follows t v = nat_le 4 v && list_any (λ r. is_in (v - 4) r && is_in v r) t.ranges

-- the number k of an `addi x17,x0,k`
abbrev pub puts17 : Instr → Option ℕ
puts17 (instr.Imm Addi rd rs1 imm) = if (rd == 17) && (rs1 == 0) then Some (imm_result Addi 0 imm) else None
puts17 i = None

-- An instruction that is no branch, JAL, JALR, ECALL or EBREAK, and does not write x17. FENCE writes no register, whatever its rd.
abbrev pub leaves17 : Instr → Bool
leaves17 (instr.Lui rd imm) = not (rd == 17)
leaves17 (instr.Auipc rd imm) = not (rd == 17)
leaves17 (instr.Jal rd offset) = false
leaves17 (instr.Jalr rd rs1 offset) = false
leaves17 (instr.Branch op rs1 rs2 offset) = false
leaves17 (instr.Load op rd rs1 offset) = not (rd == 17)
leaves17 (instr.Store op rs1 rs2 offset) = true
leaves17 (instr.Imm op rd rs1 imm) = not (rd == 17)
leaves17 (instr.Reg op rd rs1 rs2) = not (rd == 17)
leaves17 (instr.Fence rd rs1 imm) = true
leaves17 instr.Ecall = false
leaves17 instr.Ebreak = false

abbrev pub or_passed : Option ℕ → Bool → Option ℕ → Option ℕ
or_passed (Some k) leaves before = Some k
or_passed None true before = before
or_passed None false before = None

-- what is known behind an instruction, from what is known before it
abbrev pub known_behind : Option Instr → Option ℕ → Option ℕ
known_behind None before = None
known_behind (Some i) before = or_passed (puts17 i) (leaves17 i) before

-- The number that x17 is known to hold at v, by at most n words before v: that of the nearest `addi x17,x0,k` before v in its range, where
-- only words between that leave x17 as it is, and none of the addresses behind the addi up to v is the entry or the target of a jump.
unfoldable pub known_within : Text → ℕ → ℕ → Option ℕ
known_within t zero v = None
known_within t (suc n) v =
    if is_target t v || not (follows t v) then None
    else known_behind (instr_at t (v - 4)) (known_within t n (v - 4))

-- by at most 16 words
abbrev pub known : Text → ℕ → Option ℕ
known t v = known_within t 16 v

-- What that says. The word m words before v is `addi x17,x0,k`, and the words between are instructions that leave x17 as it is. All these
-- addresses are in one range, and none of those behind the addi up to v is the entry or the target of a branch or a JAL of the text.
pub record IsPutBefore (t : Text) (v m k : ℕ) : Type 0 where
  pub within : 4 * m ≤ v
  pub puts : (i : Instr) × (instr_at t (v - 4 * m) ≡ Some i) × (puts17 i ≡ Some k)
  pub between : (j : ℕ) → 1 ≤ j → j < m → (i : Instr) × (instr_at t (v - 4 * j) ≡ Some i) × (leaves17 i ≡ true)
  pub in_one : list_any (λ r. is_in (v - 4 * m) r && is_in v r) t.ranges ≡ true
  pub no_way_in : (j : ℕ) → j < m → is_target t (v - 4 * j) ≡ false

-- ranges that share an address are the same
abbrev pub AreApart : List Range → Type 0
AreApart ranges = All (λ r. All (λ s. (a : ℕ) → is_in a r ≡ true → is_in a s ≡ true → r ≡ s) ranges) ranges

-- ---- what a word says of the way on

-- an ECALL, by the known number: services 93 and 94 exit, and without one it may exit
abbrev pub ecall_kind : Option ℕ → Flow
ecall_kind None = flow.MayExit
ecall_kind (Some k) = if (k == 93) || (k == 94) then flow.Exit else flow.Next

-- a JAL with rd x0 is a jump, and one with rd x1 a call; others are refused
abbrev pub jal_kind : ℕ → ℕ → Flow
jal_kind rd to = if rd == 0 then flow.Jump to else if rd == 1 then flow.Call to else flow.Refused

-- JALR x0, 0(x1) is a return; others are refused
abbrev pub jalr_kind : ℕ → ℕ → ℤ → Flow
jalr_kind rd rs1 offset = if (rd == 0) && (rs1 == 1) && int_eq offset (pos 0) then flow.Return else flow.Refused

abbrev pub instr_kind : Text → ℕ → Instr → Flow
instr_kind t v (instr.Branch op rs1 rs2 offset) = flow.Branch (moved_by v offset)
instr_kind t v (instr.Jal rd offset) = jal_kind rd (moved_by v offset)
instr_kind t v (instr.Jalr rd rs1 offset) = jalr_kind rd rs1 offset
instr_kind t v instr.Ecall = ecall_kind (known t v)
instr_kind t v instr.Ebreak = flow.Breakpoint
instr_kind t v i = flow.Next

abbrev pub word_kind : Text → ℕ → Option Instr → Flow
word_kind t v None = flow.Refused
word_kind t v (Some i) = instr_kind t v i

-- what the word at v says of the way on. It is refused where v is no multiple of 4, where it is outside the text, and where the word stands
-- for no instruction.
unfoldable pub kind_at : Text → ℕ → Flow
kind_at t v = if (v % 4 == 0) && is_text_address t v then word_kind t v (instr_at t v) else flow.Refused
