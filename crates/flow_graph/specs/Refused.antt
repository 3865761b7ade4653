-- Why code is refused: by a reached address, by code that two functions share, or by recursion.
-- RISC-V Unprivileged ISA, RV32I: JAL links x1 in a call and x0 in a jump, and `jalr x0,0(x1)` is a return.
use Rattle.std.specs.Prelude.{◌≡◌, ◌≢◌, ℕ, pos, ◌%◌, ◌<◌, ◌≤◌, ◌==◌, ◌&&◌, ◌⊎◌, not, nat_lt, List, Option, Some, None, if◌then◌else◌}
use Rattle.std.specs.Ordering.{int_eq}
use Rattle.scale_base.specs.declared.instruction.Instr.{Instr}
use Rattle.scale_base.specs.declared.instruction.Instr.TheVariants as instr
use Rattle.scale_base.specs.declared.refusal.Refusal.{Refusal}
use Rattle.scale_base.specs.declared.refusal.Refusal.TheVariants.{MisalignedTarget, OutsideText, IllegalWord, OddLink, IndirectJump, SharedCode, Recursion}
use Rattle.cost_theory.specs.declared.flow.Flow.TheVariants as flow
use Rattle.cost_theory.specs.Reached.{Reached, HasNoBadWord, HasNoSharedCode}
use Rattle.graph_algorithms.specs.Cycles.{IsCycleBy}
use Rattle.code_text.specs.Text.{Text, is_text_address, instr_at, kind_at}

-- ---- reached addresses

-- an address is reached, in some function
abbrev pub IsReached : Text → ℕ → Type 0
IsReached t v = (f : ℕ) × Reached (kind_at t) t.entry f v

-- why the instruction of an address is refused, if it is: a JAL that links another register than x0 and x1, a JALR that is no
-- return, or none at all
abbrev pub instr_cause : ℕ → Option Instr → Option Refusal
instr_cause v None = Some (IllegalWord v)
instr_cause v (Some (instr.Jal rd offset)) = if nat_lt rd 2 then None else Some (OddLink v)
instr_cause v (Some (instr.Jalr rd rs1 offset)) = if (rd == 0) && (rs1 == 1) && int_eq offset (pos 0) then None else Some (IndirectJump v)
instr_cause v (Some i) = None

-- why an address is refused, if it is
unfoldable pub cause_at : Text → ℕ → Option Refusal
cause_at t v =
    if not (v % 4 == 0) then Some (MisalignedTarget v)
    else if not (is_text_address t v) then Some (OutsideText v)
    else instr_cause v (instr_at t v)

-- the refusal is that of the least reached address which is refused
pub record IsLeastRefused (t : Text) (refusal : Refusal) : Type 0 where
  pub at : ℕ
  pub reached : IsReached t at
  pub cause : cause_at t at ≡ Some refusal
  pub least : (v : ℕ) → IsReached t v → v < at → cause_at t v ≡ None

-- ---- shared code

-- an address is reached in two functions
abbrev pub IsShared : Text → ℕ → Type 0
IsShared t v = (f : ℕ) × (h : ℕ) × (f ≢ h) × Reached (kind_at t) t.entry f v × Reached (kind_at t) t.entry h v

-- the refusal is that of the least address that is reached in two functions, where no reached address is refused
pub record IsLeastShared (t : Text) (refusal : Refusal) : Type 0 where
  pub at : ℕ
  pub named : refusal ≡ SharedCode at
  pub no_bad_word : HasNoBadWord (kind_at t) t.entry
  pub shared : IsShared t at
  pub least : (v : ℕ) → IsShared t v → at ≤ v

-- ---- recursion

-- a reached word of the function that begins at f calls the function that begins at h
abbrev pub Calls : Text → ℕ → ℕ → Type 0
Calls t f h = (v : ℕ) × Reached (kind_at t) t.entry f v × (kind_at t v ≡ flow.Call h)

-- the refusal names functions by their entries, each of which calls the next, and the last the first, where no reached address
-- is refused and no code is shared
pub record IsRecursion (t : Text) (refusal : Refusal) : Type 0 where
  pub cycle : List ℕ
  pub named : refusal ≡ Recursion cycle
  pub no_bad_word : HasNoBadWord (kind_at t) t.entry
  pub no_shared_code : HasNoSharedCode (kind_at t) t.entry
  pub calls : IsCycleBy (Calls t) cycle

-- the refusal of the code of a text
abbrev pub IsRefusedBy : Text → Refusal → Type 0
IsRefusedBy t refusal = IsLeastRefused t refusal ⊎ (IsLeastShared t refusal ⊎ IsRecursion t refusal)
