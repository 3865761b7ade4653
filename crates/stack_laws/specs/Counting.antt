-- How often a loop turns, by a register or a word of the stack that each turn moves on, where tables of the stack say what calls leave.
use Rattle.std.specs.Prelude.{◌≡◌, ◌≢◌, ℕ, ◌+◌, ◌*◌, ◌/◌, ◌%◌, ◌^◌, ◌<◌, ◌≤◌, ◌⊎◌, Bool, true, false, Some}
use Rattle.scale_base.specs.declared.instruction.Instr.{Instr}
use Rattle.cost_theory.specs.Graph.{Graph, Loops}
use Rattle.code_text.specs.Text.{Text, instr_at}
use Rattle.bound_laws.specs.Registers.{Measure, measured, effect}
use Rattle.bound_laws.specs.Turning.{Leads, Calls}
use Rattle.bound_laws.specs.Values.{Covers, arc, sum_with, scaled, line_of, IsRegister, Values, Steps}
use Rattle.stack_laws.specs.Stacks.{Stacks, View, name_of, IsStoredFrom, IsMissed, IsRestored, IsSafe}
use Rattle.stack_laws.specs.Stacks.Name.{of_word}

-- what is counted in: a sum of registers, or a multiple of a word of the stack and a shift, modulo 2^32
pub data Counter : Type 0 where
  in_registers : Measure → Counter
  in_word : (number factor shift : ℕ) → Counter

abbrev pub counted : Counter → View → ℕ
counted (in_registers m) x = measured m x.regs
counted (in_word k factor shift) x = (shift + factor * x.words k) % 2 ^ 32

abbrev pub HasRegisters : Counter → Type 0
HasRegisters (in_registers m) = (m.register < 32) × (m.other < 32)
HasRegisters (in_word k factor shift) = Unit {0}

-- The instruction at a adds so much to the counter, modulo 2^32. To a word it adds what a register that is stored there is more than it.
abbrev pub IsAdded : Values → Stacks → Counter → ℕ → Instr → ℕ → Type 0
IsAdded v w (in_registers m) a i e = effect m i ≡ Some e
IsAdded v w (in_word k factor shift) a i e =
    (IsMissed v w a i k × (e ≡ 0)) ⊎ ((r : ℕ) × (more : ℕ) × IsStoredFrom w a i k r × (name_of w a r ≡ Some (of_word k more)) ×
    (e ≡ factor * more % 2 ^ 32))

-- a register is what it was before a call at u to a function; x0 always is
abbrev pub IsLeftBy : Text → Values → Stacks → ℕ → ℕ → ℕ → Type 0
IsLeftBy t v w u to r = (r ≡ 0) ⊎ (IsRegister r × IsRestored t v w u to r)

-- and so is what is counted in
abbrev pub IsKeptBy : Text → Values → Stacks → ℕ → ℕ → Counter → Type 0
IsKeptBy t v w u to (in_registers m) = IsLeftBy t v w u to m.register × IsLeftBy t v w u to m.other
IsKeptBy t v w u to (in_word k factor shift) = IsSafe v w u to k

-- Why a loop can't turn often. At its header the counter is at most `width`, and each turn raises it by `least` at least.
pub record StackCertificate : Type 0 where
  pub counter : Counter
  pub width : ℕ
  pub least : ℕ
  -- the code of the loop, with its header
  pub body : ℕ → Bool
  -- what the instruction at an address of the body adds, and what those from the header up to there have added, modulo 2^32
  pub adds : ℕ → ℕ
  pub offset : ℕ → ℕ
  -- the code that runs while a call from the body is open
  pub quiet : ℕ → Bool

-- what the instructions from the header on have added behind the one at a
abbrev pub added_behind : StackCertificate → ℕ → ℕ
added_behind c a = (c.offset a + c.adds a) % 2 ^ 32

-- What the code has to say of a certificate for the loop with this header and this extent. Each clause is about one edge of the graph.
pub record IsStackCertificate (t : Text) (g : Graph) (v : Values) (w : Stacks) (header : ℕ) (extent : ℕ → Bool) (c : StackCertificate)
    : Type 0 where
  pub registers : HasRegisters c.counter
  -- the header is in the body, and begins it
  pub first : c.body header ≡ true
  pub begins : c.offset header ≡ 0
  -- the body is entered at its header alone, by edges, by calls and at the start of a run
  pub entered : (a b : ℕ) → Leads g a b → v.live a ≡ true → c.body b ≡ true → b ≢ header → c.body a ≡ true
  pub called : (a b : ℕ) → Calls g a b → v.live a ≡ true → c.body b ≡ true → b ≡ header
  pub started : c.body t.entry ≡ true → t.entry ≡ header
  -- what is counted as a turn comes from the body
  pub counts : (a : ℕ) → Leads g a header → v.live a ≡ true → extent a ≡ true → c.body a ≡ true
  -- within the body it is known what each instruction adds, and what those of all ways to an address add is the same
  pub effects : (a b : ℕ) (i : Instr) → Steps g a b → v.live a ≡ true → c.body a ≡ true → instr_at t a ≡ Some i →
      IsAdded v w c.counter a i (c.adds a)
  pub along : (a b : ℕ) → Leads g a b → v.live a ≡ true → c.body a ≡ true → c.body b ≡ true → b ≢ header → c.offset b ≡ added_behind c a
  -- each turn raises the counter by the least at least, and never past 2^32
  pub turns : (a : ℕ) → Leads g a header → v.live a ≡ true → c.body a ≡ true → (c.least ≤ added_behind c a) ×
      (added_behind c a + c.width < 2 ^ 32)
  -- calls from the body go to quiet code, and the counter is the same when they come back
  pub calls : (a b : ℕ) → Calls g a b → v.live a ≡ true → c.body a ≡ true → (c.quiet b ≡ true) × (c.adds a ≡ 0) ×
      IsKeptBy t v w a b c.counter
  -- quiet code stays quiet along its edges and calls, and never comes to the header
  pub quiet_along : (a b : ℕ) → Leads g a b → c.quiet a ≡ true → c.quiet b ≡ true
  pub quiet_calls : (a b : ℕ) → Calls g a b → c.quiet a ≡ true → c.quiet b ≡ true
  pub quiet_apart : c.quiet header ≡ false

-- the counter is from 0 to the width at an address, by the intervals there
abbrev pub IsWithin : Values → Stacks → ℕ → Counter → ℕ → Type 0
IsWithin v w width (in_registers m) a = Covers (Some (arc 0 width)) (line_of m (v.at a)) ⊎
    ((j : ℕ) × (v.forms j ≡ m) × Covers (Some (arc 0 width)) (v.lines a j))
IsWithin v w width (in_word k factor shift) a = Covers (Some (arc 0 width)) (sum_with (scaled factor (w.word a k)) shift)

-- A bound of a loop that the code alone shows.
pub record IsShown (t : Text) (g : Graph) (v : Values) (w : Stacks) (l : Loops) (k : ℕ) : Type 0 where
  pub certificate : StackCertificate
  pub is : IsStackCertificate t g v w (l.header k) (l.inside k) certificate
  pub within : IsWithin v w certificate.width certificate.counter (l.header k)
  pub positive : 0 < certificate.least
  pub enough : certificate.width / certificate.least ≤ l.bound k
