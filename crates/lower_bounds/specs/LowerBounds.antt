-- How often a loop turns at least, by a register or a word of the stack that each turn moves on by so much at most: a lower loop bound by
-- induction on the values of one variable. Lower bounds of loops are flow facts, as their upper bounds are (Li and Malik, DAC 1995).
use Rattle.std.specs.Prelude.{◌≡◌, ◌≢◌, ℕ, ◌+◌, ◌-◌, ◌*◌, ◌%◌, ◌^◌, ◌≤◌, ◌⊎◌, ◌==◌, ◌&&◌, ◌||◌, Bool, true, false, Option, Some, None}
use Rattle.scale_base.specs.declared.instruction.BranchOp.{BranchOp}
use Rattle.scale_base.specs.declared.instruction.BranchOp.TheVariants.{Beq}
use Rattle.scale_base.specs.declared.instruction.Instr.{Instr}
use Rattle.cost_theory.specs.Graph.{Graph, Loops}
use Rattle.code_text.specs.Text.{Text, instr_at}
use Rattle.bound_laws.specs.Registers.{Measure, keeps, effect}
use Rattle.bound_laws.specs.Turning.{Leads, Calls}
use Rattle.bound_laws.specs.Values.{Arc, IsIn, Covers, Said, arc, held, sum_with, scaled, line_of, opposite_of, said, passed, IsImpossible, IsRegister, Values, Steps}
use Rattle.stack_laws.specs.Stacks.{Stacks, IsStoredFrom, IsMissed}
use Rattle.stack_laws.specs.Stacks.Name.{of_word}
use Rattle.stack_laws.specs.Counting.{Counter, HasRegisters, IsAdded, IsKeptBy}
use Rattle.stack_laws.specs.Counting.Counter.{in_registers, in_word}

-- ---- what is counted in, over an edge of an instruction that is no call

-- the comparison says that both registers hold the same number
abbrev pub says_same : BranchOp → Bool
says_same Beq = true
says_same op = false

-- so it is with the registers of a measure, whose multiples come to nothing then
abbrev pub is_same : Option Said → Measure → Bool
is_same None m = false
is_same (Some s) m =
    says_same s.op && (((m.register == s.first) && (m.other == s.second)) || ((m.register == s.second) && (m.other == s.first)))
    && ((m.factor + m.other_factor) % 2 ^ 32 == 0)

-- a sum of registers is in an interval at an address, by their intervals or by a line
abbrev pub IsSumAt : Values → ℕ → Measure → Arc → Type 0
IsSumAt v a m y = Covers (Some y) (line_of m (v.at a)) ⊎ ((j : ℕ) × (v.forms j ≡ m) × Covers (Some y) (v.lines a j))

-- and behind the instruction at a, on the way to b: by their intervals, by a line, since both are the same, or by what is known at b
abbrev pub IsSumOver : Values → Instr → (a b : ℕ) → Measure → Arc → Type 0
IsSumOver v i a b m y =
    Covers (Some y) (line_of m (passed i a b (v.at a)))
    ⊎ ((j : ℕ) × (e : ℕ) × (v.forms j ≡ m) × (effect m i ≡ Some e) × Covers (Some y) (sum_with (v.lines a j) e))
    ⊎ ((effect m i ≡ Some 0) × (is_same (said i a b) m ≡ true) × IsIn y (m.shift % 2 ^ 32))
    ⊎ IsSumAt v b m y

-- what is known of a word of the stack there: what is known at b, what was known before, what is of a register that is stored to it, or what a
-- branch says of a register that is so much more
abbrev pub IsWordOver : Values → Stacks → Instr → (a b k : ℕ) → Option Arc → Type 0
IsWordOver v w i a b k y =
    (y ≡ w.word b k)
    ⊎ (IsMissed v w a i k × (y ≡ w.word a k))
    ⊎ ((r : ℕ) × IsStoredFrom w a i k r × (y ≡ held (v.at a) r))
    ⊎ ((r : ℕ) × (more : ℕ) × IsMissed v w a i k × IsRegister r × (keeps r i ≡ true) × (w.name a r ≡ Some (of_word k more)) ×
    (y ≡ sum_with (passed i a b (v.at a) r) (opposite_of more)))

abbrev pub IsCountedOver : Values → Stacks → Instr → (a b : ℕ) → Counter → Arc → Type 0
IsCountedOver v w i a b (in_registers m) y = IsSumOver v i a b m y
IsCountedOver v w i a b (in_word k factor shift) y = (z : Option Arc) × IsWordOver v w i a b k z ×
    Covers (Some y) (sum_with (scaled factor z) shift)

-- ---- certificates

-- Why a loop turns often. Where it is entered the counter is at most `first`, each turn raises it by `most` at most, and where it is left it
-- is so great that the turns before have to be many.
pub record LowerCertificate : Type 0 where
  pub counter : Counter
  pub first : ℕ
  pub most : ℕ
  -- the code of the loop, with its header
  pub body : ℕ → Bool
  -- what the instruction at an address of the body adds, modulo 2^32, and what those from the header up to there have added at most
  pub adds : ℕ → ℕ
  pub added : ℕ → ℕ
  -- the code that runs while a call from the body is open
  pub quiet : ℕ → Bool

-- what the instructions from the header on have added at most behind the one at a
abbrev pub most_behind : LowerCertificate → ℕ → ℕ
most_behind c a = c.added a + c.adds a

-- the least number that the counter doesn't have behind the instruction at a before so many turns
abbrev pub too_great : LowerCertificate → (trips a : ℕ) → ℕ
too_great c trips a = c.first + (trips - 1) * c.most + most_behind c a + 1

-- the numbers from one on
abbrev pub from_on : ℕ → Arc
from_on low = arc low (2 ^ 32 - 1 - low)

-- the instruction at a doesn't go on to b
abbrev pub IsNever : Values → Instr → (a b : ℕ) → Type 0
IsNever v i a b = IsImpossible (said i a b) (v.at a)

-- a step from a to b leaves the loop after so many turns at least: from its body, and no call from there is open
pub record IsLate (v : Values) (w : Stacks) (c : LowerCertificate) (trips a : ℕ) (i : Instr) (b : ℕ) : Type 0 where
  pub inside : c.body a ≡ true
  pub apart : c.quiet a ≡ false
  pub great : IsCountedOver v w i a b c.counter (from_on (too_great c trips a))

-- What the code has to say of a certificate for the loop with this header and this extent, which is to turn so often. Each clause is about
-- one edge of the graph, or about two of one call.
pub record IsLowerCertificate (t : Text) (g : Graph) (v : Values) (w : Stacks) (header : ℕ) (extent : ℕ → Bool) (trips : ℕ)
    (c : LowerCertificate) : Type 0 where
  pub registers : HasRegisters c.counter
  -- the header is in the body and in the extent
  pub head : c.body header ≡ true
  pub holds : extent header ≡ true
  -- the body is entered at its header alone, by edges that are no calls, and no run starts there
  pub entered : (a b : ℕ) → Leads g a b → v.live a ≡ true → c.body b ≡ true → b ≢ header → c.body a ≡ true
  pub called : (a b : ℕ) → Calls g a b → v.live a ≡ true → c.body b ≡ false
  pub started : c.body t.entry ≡ false
  pub back : (a to : ℕ) → Calls g a to → Leads g a header → v.live a ≡ true → extent a ≡ true
  -- where it is entered the counter is at most the first number
  pub starts : (a : ℕ) (i : Instr) → Steps g a header → v.live a ≡ true → extent a ≡ false → instr_at t a ≡ Some i → IsNever v i a header
      ⊎ IsCountedOver v w i a header c.counter (arc 0 c.first)
  -- within the body it is known what each instruction adds, and no way to an address adds more than is said there
  pub effects : (a b : ℕ) (i : Instr) → Steps g a b → v.live a ≡ true → c.body a ≡ true → instr_at t a ≡ Some i →
      IsAdded v w c.counter a i (c.adds a)
  pub along : (a b : ℕ) → Leads g a b → v.live a ≡ true → c.body a ≡ true → c.body b ≡ true → b ≢ header → most_behind c a ≤ c.added b
  -- each turn comes from the body, and raises the counter by the most at most
  pub turns : (a : ℕ) → Leads g a header → v.live a ≡ true → extent a ≡ true → (c.body a ≡ true) × (most_behind c a ≤ c.most)
  -- the loop is left late
  pub left : (a b : ℕ) (i : Instr) → Steps g a b → v.live a ≡ true → extent a ≡ true → extent b ≡ false → instr_at t a ≡ Some i →
      IsNever v i a b ⊎ IsLate v w c trips a i b
  -- calls from the body go to quiet code, and the counter is the same when they come back
  pub calls : (a b : ℕ) → Calls g a b → v.live a ≡ true → c.body a ≡ true → (c.quiet b ≡ true) × (c.adds a ≡ 0) ×
      IsKeptBy t v w a b c.counter
  -- quiet code stays quiet along its edges and calls, and never comes to the header
  pub quiet_along : (a b : ℕ) → Leads g a b → c.quiet a ≡ true → c.quiet b ≡ true
  pub quiet_calls : (a b : ℕ) → Calls g a b → c.quiet a ≡ true → c.quiet b ≡ true
  pub quiet_apart : c.quiet header ≡ false

-- A lower bound of a loop that the code alone shows.
pub record IsLowerShown (t : Text) (g : Graph) (v : Values) (w : Stacks) (l : Loops) (k : ℕ) : Type 0 where
  pub certificate : LowerCertificate
  pub is : IsLowerCertificate t g v w (l.header k) (l.inside k) (l.least_trips k) certificate
