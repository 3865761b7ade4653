-- How often a loop turns, by a register that each turn moves on: a loop bound by induction on the values of one variable. Induction
-- variables: Aho, Lam, Sethi and Ullman, Compilers, section 9.1.
use Rattle.std.specs.Prelude.{◌≡◌, ◌≢◌, ℕ, ◌+◌, ◌%◌, ◌/◌, ◌^◌, ◌<◌, ◌≤◌, Bool, true, false, Some}
use Rattle.scale_base.specs.State.{Setting, State}
use Rattle.scale_base.specs.Run.{GoesOn, run}
use Rattle.cost_theory.specs.Graph.{Graph, Loops}
use Rattle.code_text.specs.Text.{Text}
use Rattle.graph_runs.specs.KeptSteps.{Carried}
use Rattle.graph_runs.specs.KeptRuns.{kept_at}
use Rattle.bound_laws.specs.Registers.{Measure, measured, effect_at}

-- The same loops, none of which is asked about: a run is kept by them where its returns go back to their calls, and they are counted as ever.
abbrev pub unasked : Loops → Loops
unasked l = record { loops = 0; header = l.header; bound = l.bound; least_trips = l.least_trips; inside = l.inside }

-- the same loops, with these bounds
abbrev pub with_bounds : Loops → (ℕ → ℕ) → Loops
with_bounds l bounds = record { loops = l.loops; header = l.header; bound = bounds; least_trips = l.least_trips; inside = l.inside }

-- Why a loop can't turn often. At its header a measure of registers is at most `width`, and each turn raises it by `least` at least.
pub record Certificate : Type 0 where
  pub measure : Measure
  pub width : ℕ
  pub least : ℕ
  -- the code of the loop, with its header
  pub body : ℕ → Bool
  -- what the instructions from the header up to an address of the body have added, modulo 2^32
  pub offset : ℕ → ℕ
  -- the code that runs while a call from the body is open
  pub quiet : ℕ → Bool

-- an edge from one node to another
abbrev pub Leads : Graph → ℕ → ℕ → Type 0
Leads g a b = (e : ℕ) × (e < g.edges) × (g.source e ≡ a) × (g.target e ≡ Some b)

-- a call at a node, which goes to another
abbrev pub Calls : Graph → ℕ → ℕ → Type 0
Calls g a b = (e : ℕ) × (f : ℕ) × (e < g.edges) × (g.source e ≡ a) × (g.callee e ≡ Some f) × (g.entry f ≡ b)

-- what the instructions from the header on have added behind the one at a, of which this is the effect
abbrev pub behind : Certificate → ℕ → ℕ → ℕ
behind c a e = (c.offset a + e) % 2 ^ 32

-- What the code has to say of a certificate for the loop with this header and this extent. Each clause is about one edge of the graph.
pub record IsCertificate (t : Text) (g : Graph) (header : ℕ) (extent : ℕ → Bool) (c : Certificate) : Type 0 where
  pub register : c.measure.register < 32
  pub other : c.measure.other < 32
  -- the header is in the body, and begins it
  pub first : c.body header ≡ true
  pub begins : c.offset header ≡ 0
  -- the body is entered at its header alone, by edges, by calls and at the start of a run
  pub entered : (a b : ℕ) → Leads g a b → c.body b ≡ true → b ≢ header → c.body a ≡ true
  pub called : (a b : ℕ) → Calls g a b → c.body b ≡ true → b ≡ header
  pub started : c.body t.entry ≡ true → t.entry ≡ header
  -- what is counted as a turn comes from the body
  pub counted : (a : ℕ) → Leads g a header → extent a ≡ true → c.body a ≡ true
  -- within the body each instruction has a known effect, and those of all ways to an address agree
  pub along : (a b : ℕ) → Leads g a b → c.body a ≡ true → c.body b ≡ true → b ≢ header → (e : ℕ) × (effect_at t c.measure a ≡ Some e) ×
      (c.offset b ≡ behind c a e)
  -- each turn raises the measure by the least at least, and never past 2^32
  pub turns : (a : ℕ) → Leads g a header → c.body a ≡ true → (e : ℕ) × (effect_at t c.measure a ≡ Some e) × (c.least ≤ behind c a e) ×
      (behind c a e + c.width < 2 ^ 32)
  -- calls from the body go to quiet code, and leave the register
  pub calls : (a b : ℕ) → Calls g a b → c.body a ≡ true → (c.quiet b ≡ true) × (effect_at t c.measure a ≡ Some 0)
  -- quiet code stays quiet along its edges and calls, leaves the register, and never comes to the header
  pub quiet_along : (a b : ℕ) → Leads g a b → c.quiet a ≡ true → c.quiet b ≡ true
  pub quiet_calls : (a b : ℕ) → Calls g a b → c.quiet a ≡ true → c.quiet b ≡ true
  pub quiet_leaves : (e : ℕ) → e < g.edges → c.quiet (g.source e) ≡ true → effect_at t c.measure (g.source e) ≡ Some 0
  pub quiet_apart : c.quiet header ≡ false

-- What a run has to say: at the header the measure is within the width, as long as the run's returns go back to their calls.
abbrev pub StaysWithin : Setting → State → Loops → ℕ → Certificate → Type 0
StaysWithin env s l k c = (n : ℕ) (d : Carried) → kept_at env s (unasked l) n ≡ Some d → (run env s n).standing ≡ GoesOn →
    (run env s n).state.pc ≡ l.header k →
    measured c.measure (run env s n).state.regs ≤ c.width

-- A loop's bound that a certificate shows: so often the least fits into the width.
pub record HasBound (t : Text) (env : Setting) (s : State) (g : Graph) (l : Loops) (k : ℕ) : Type 0 where
  pub certificate : Certificate
  pub is : IsCertificate t g (l.header k) (l.inside k) certificate
  pub within : StaysWithin env s l k certificate
  pub positive : 0 < certificate.least
  pub enough : certificate.width / certificate.least ≤ l.bound k
