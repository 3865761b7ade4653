-- Code that stands in the keyed segment, steps along it, and what each fragment does.
use Rattle.std.specs.Prelude.{◌≡◌, Bool, nat_le, ℕ, zero, suc, ◌+◌, ◌*◌, ◌/◌, ◌%◌, ◌^◌, ◌<◌, ◌≤◌, true, false, List, [], ◌∷◌, length, slice_index, slice_set, Option, Some, None}
use Rattle.scale_base.specs.declared.instruction.Instr.{Instr}
use Rattle.scale_base.specs.declared.stepping.Stepped.{Stepped}
use Rattle.scale_base.specs.Class.{class_of}
use Rattle.scale_base.specs.Word.{Encodes}
use Rattle.scale_base.specs.Layout.{is_keyed, can_fetch, can_read}
use Rattle.scale_base.specs.State.{Setting, State, reg, word_at}
use Rattle.scale_base.specs.Image.{WINDOW_START}
use Rattle.scale_base.specs.Step.{move_of}
use Rattle.scale_base.specs.Run.{GoesOn, run}
use Rattle.stub_writer.specs.Fragments.{t0, t1, port}

-- the instruction stands at the address, in the keyed segment
pub record StandsAt (env : Setting) (bytes : ℕ → ℕ) (at : ℕ) (i : Instr) : Type 0 where
  pub keyed : is_keyed env.layout at ≡ true
  pub fetched : can_fetch env.layout at ≡ true
  pub room : at + 4 < 2 ^ 32
  pub encodes : Encodes (word_at bytes at) i

-- the instructions stand one after another from the address on
abbrev pub Stand : Setting → (ℕ → ℕ) → ℕ → List Instr → Type 0
Stand env bytes at [] = Unit {0}
Stand env bytes at (i ∷ is) = StandsAt env bytes at i × Stand env bytes (at + 4) is

-- the run takes these steps, and goes on in this state
abbrev pub StepsLead : Setting → State → List Stepped → State → Type 0
StepsLead env s xs t = run env s (length xs) ≡ record { steps = xs; state = t; standing = GoesOn }

-- a step of the keyed segment to the next instruction
abbrev pub keyed_step : ℕ → Instr → Option ℕ → Stepped
keyed_step at i stored = record {
  pc = at;
  next = at + 4;
  class = class_of i false;
  moved = move_of i;
  keyed = true;
  port = stored;
}

-- the steps along the instructions, of which none stores at the port
abbrev pub along : ℕ → List Instr → List Stepped
along at [] = []
along at (i ∷ is) = keyed_step at i None ∷ along (at + 4) is

-- the same, where the n-th step stores the level at the port
abbrev pub along_storing : (n level at : ℕ) → List Instr → List Stepped
along_storing n level at [] = []
along_storing zero level at (i ∷ is) = keyed_step at i (Some level) ∷ along (at + 4) is
along_storing (suc n) level at (i ∷ is) = keyed_step at i None ∷ along_storing n level (at + 4) is

-- the state is one of the machine's
pub record IsSound (env : Setting) (s : State) : Type 0 where
  pub regs : length s.regs ≡ 32
  pub window : length s.window ≡ 512
  pub zero : reg s.regs 0 ≡ 0
  pub level : slice_index s.window port < env.levels
  pub levels : env.levels ≤ 8

-- four bits of a word, lowest first
abbrev pub four_bits : (word k : ℕ) → ℕ
four_bits word k = word / 2 ^ (4 * k) % 16

-- whether a Tally that finds such a count stores at the port: it counts one more
abbrev pub is_due : (shift from count : ℕ) → Bool
is_due shift from count = nat_le from ((count + 1) / 2 ^ shift)

-- the state behind the code, with other words of the window
abbrev pub behind : State → ℕ → List ℕ → State
behind s len window = record s { pc = s.pc + 4 * len; window = window }

-- t0 and t1 in the save slots
abbrev pub registers_saved : State → List ℕ
registers_saved s = slice_set (slice_set s.window 0 (reg s.regs t0)) 1 (reg s.regs t1)

abbrev pub level_in : State → ℕ
level_in s = slice_index s.window port

-- a Switch: the port holds the word's entry of the level that it held
abbrev pub switched : State → ℕ → State
switched s word = behind s 11 (slice_set (registers_saved s) port (four_bits word (level_in s)))

-- an Exit, where `row` is the word of the table that it reads
abbrev pub exited : State → (counter row : ℕ) → State
exited s counter row = behind s 16 (slice_set (slice_set (registers_saved s) counter 0) port (four_bits row (level_in s)))

-- a Count: the counter is one more, and t0 is in its save slot
abbrev pub counted : State → (counter : ℕ) → State
counted s counter =
    behind s 5 (slice_set (slice_set s.window 0 (reg s.regs t0)) counter ((slice_index s.window counter + 1) % 2 ^ 32))

abbrev pub cleared : State → (counter : ℕ) → State
cleared s counter = behind s 1 (slice_set s.window counter 0)

-- the instruction at pc may read a word there, which is no word of the window
pub record IsRowAt (env : Setting) (pc at : ℕ) : Type 0 where
  pub aligned : at % 4 ≡ 0
  pub outside : at < WINDOW_START
  pub allowed : can_read env.layout pc at 4 ≡ true

-- where an Exit's row stands: the counter, shifted
abbrev pub row_place : State → (counter shift table : ℕ) → ℕ
row_place s counter shift table = table + 4 * (slice_index s.window counter / 2 ^ shift)

-- the word of the window is a shadow counter
pub record IsCounter (k : ℕ) : Type 0 where
  pub low : 2 ≤ k
  pub high : k < 511
