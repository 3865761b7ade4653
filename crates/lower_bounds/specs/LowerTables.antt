-- Scaffold: a table of a lower bound as what `lower_bounds` calls a certificate: by address what stands beside it in the list of nodes.
use Rattle.std.specs.Prelude.{◌≡◌, ◌≢◌, ℕ, ◌*◌, ◌%◌, ◌^◌, ◌≤◌, ◌<◌, ◌⊎◌, Bool, true, false, List, length, slice_get, Option, Some, None}
use Rattle.scale_base.specs.declared.instruction.Instr.{Instr}
use Rattle.cost_theory.specs.Graph.{Graph}
use Rattle.code_text.specs.Text.{Text, instr_at}
use Rattle.loop_file.specs.Kept.{in_extent}
use Rattle.flow_graph.specs.FlowGraph.{graph}
use Rattle.bound_laws.specs.Registers.{Measure}
use Rattle.bound_laws.specs.Values.{Arc, Values, Covers, arc, passed, scaled, sum_with}
use Rattle.stack_laws.specs.Counting as counting
use Rattle.stack_laws.specs.Counting.Counter.{in_registers, in_word}
use Rattle.stack_laws.specs.Counting.{IsAdded, IsKeptBy}
use Rattle.stack_laws.specs.Stacks.{Stacks, name_of, IsMissed, IsStoredFrom}
use Rattle.stack_laws.specs.Stacks.Name.{of_word}
use Rattle.wrapped_intervals.specs.Small.{measure_view}
use Rattle.value_checks.specs.Tables.{beside}
use Rattle.stack_tables.specs.Tables.{IsStackClaim, address, stacks_in, text_in, values_in}
use Rattle.stack_tables.specs.declared.claims.StackClaim.{StackClaim}
use Rattle.lower_bounds.specs.LowerBounds.{LowerCertificate, most_behind, IsCountedOver, IsLate, IsNever, IsSumOver}
use Rattle.lower_bounds.specs.declared.tables.Counter.{Counter}
use Rattle.lower_bounds.specs.declared.tables.Counter.TheVariants.{Registers, Word}
use Rattle.lower_bounds.specs.declared.tables.CountedWord.{CountedWord}
use Rattle.lower_bounds.specs.declared.tables.LowerTable.{LowerTable}
use Rattle.lower_bounds.specs.declared.tables.LowerCase.{LowerCase}
use Rattle.lower_bounds.specs.declared.tables.Step.{Step}

abbrev pub counter_view : Counter → counting.Counter
counter_view (Registers m) = in_registers (measure_view m)
counter_view (Word x) = in_word x.number x.factor x.shift

abbrev pub certificate_of : List ℕ → LowerTable → LowerCertificate
certificate_of nodes t = record {
  counter = counter_view t.counter;
  first = t.first;
  most = t.most;
  body = beside false nodes t.body.items;
  adds = beside 0 nodes t.adds.items;
  added = beside 0 nodes t.added.items;
  quiet = beside false nodes t.quiet.items;
}

-- the same, which doesn't unfold by itself
unfoldable pub certificate_in : StackClaim → LowerTable → LowerCertificate
certificate_in c t = certificate_of c.graph.now.code.nodes t

-- an entry for each node
pub record AreEntries (nodes : List ℕ) (t : LowerTable) : Type 0 where
  pub body : length t.body.items ≡ length nodes
  pub adds : length t.adds.items ≡ length nodes
  pub added : length t.added.items ≡ length nodes
  pub quiet : length t.quiet.items ≡ length nodes

-- a table with an entry for each node, for the loop of a note whose header is a node
pub record IsLowerCase (c : LowerCase) : Type 0 where
  pub claim : IsStackClaim c.claim.now
  pub header : c.header < length c.claim.now.graph.now.code.nodes
  pub header_is : address c.claim.now c.header ≡ c.note.now.header
  pub sized : AreEntries c.claim.now.graph.now.code.nodes c.table.now

abbrev pub cert : LowerCase → LowerCertificate
cert c = certificate_in c.claim.now c.table.now

abbrev pub at_of : LowerCase → ℕ → ℕ
at_of c k = address c.claim.now k

-- ---- steps

-- a step between two nodes
pub record IsStep (c : StackClaim) (x : Step) : Type 0 where
  pub from : x.from < length c.graph.now.code.nodes
  pub to : x.to < length c.graph.now.code.nodes

-- the intervals of registers behind it
abbrev pub passed_along : StackClaim → Step → ℕ → Option Arc
passed_along c x r = passed x.instr (address c x.from) (address c x.to) ((values_in c).at (address c x.from)) r

-- a sum of registers, what is counted in, and the word that is counted in are in an interval behind it
abbrev pub IsSumIn : StackClaim → Step → Measure → Arc → Type 0
IsSumIn c x m y = IsSumOver (values_in c) x.instr (address c x.from) (address c x.to) m y

abbrev pub IsCountedIn : StackClaim → Step → counting.Counter → Arc → Type 0
IsCountedIn c x counter y = IsCountedOver (values_in c) (stacks_in c) x.instr (address c x.from) (address c x.to) counter y

abbrev pub IsWordIn : StackClaim → Step → CountedWord → Arc → Type 0
IsWordIn c x counted y = IsCountedIn c x (in_word counted.number counted.factor counted.shift) y

abbrev pub IsMissedBy : StackClaim → Step → ℕ → Type 0
IsMissedBy c x k = IsMissed (values_in c) (stacks_in c) (address c x.from) x.instr k

abbrev pub IsNeverTaken : StackClaim → Step → Type 0
IsNeverTaken c x = IsNever (values_in c) x.instr (address c x.from) (address c x.to)

-- a multiple of a number of an interval and a shift is in another interval
abbrev pub IsScaledTo : Option Arc → (factor shift : ℕ) → Arc → Type 0
IsScaledTo z factor shift y = Covers (Some y) (sum_with (scaled factor z) shift)

-- the instruction at a stores a register that is so much more than the word that so many times it is what is added
abbrev pub IsCountedFrom : Stacks → ℕ → Instr → (word factor adds : ℕ) → Type 0
IsCountedFrom w a i word factor adds = (r : ℕ) × (more : ℕ) × IsStoredFrom w a i word r × (name_of w a r ≡ Some (of_word word more)) ×
    (adds ≡ factor * more % 2 ^ 32)

-- ---- what the code says of a table, edge by edge

-- an edge from a to b
pub record IsLedSo (c : LowerCertificate) (header : ℕ) (extent : ℕ → Bool) (a b : ℕ) : Type 0 where
  pub turn : b ≡ header → extent a ≡ true → (c.body a ≡ true) × (most_behind c a ≤ c.most)
  pub entered : b ≢ header → c.body b ≡ true → c.body a ≡ true
  pub along : b ≢ header → c.body a ≡ true → c.body b ≡ true → most_behind c a ≤ c.added b

-- a call at a to b
pub record IsCalledSo (t : Text) (v : Values) (w : Stacks) (c : LowerCertificate) (a b : ℕ) : Type 0 where
  pub begins : c.body b ≡ false
  pub calls : c.body a ≡ true → (c.quiet b ≡ true) × (c.adds a ≡ 0) × IsKeptBy t v w a b c.counter

-- a step from a to b by an instruction that is no call
pub record IsStepSo (v : Values) (w : Stacks) (c : LowerCertificate) (header : ℕ) (extent : ℕ → Bool) (trips a : ℕ) (i : Instr) (b : ℕ)
    : Type 0 where
  pub starts : b ≡ header → extent a ≡ false → IsNever v i a header ⊎ IsCountedOver v w i a header c.counter (arc 0 c.first)
  pub left : extent a ≡ true → extent b ≡ false → IsNever v i a b ⊎ IsLate v w c trips a i b
  pub effects : c.body a ≡ true → IsAdded v w c.counter a i (c.adds a)

abbrev pub IsStepAt : LowerCase → (a : ℕ) → Instr → (b : ℕ) → Type 0
IsStepAt c a i b = IsStepSo (values_in c.claim.now) (stacks_in c.claim.now) (cert c) c.note.now.header
    (λ v. in_extent c.note.now v) c.note.now.at_least a i b

abbrev pub IsLateOut : LowerCase → Step → Type 0
IsLateOut c x = IsLate (values_in c.claim.now) (stacks_in c.claim.now) (cert c) c.note.now.at_least (at_of c x.from) x.instr (at_of c x.to)

-- of an edge to whose source a run may come
pub record IsLiveSo (c : LowerCase) (g : Graph) (a e : ℕ) : Type 0 where
  pub led : (b : ℕ) → g.target e ≡ Some b → IsLedSo (cert c) c.note.now.header (λ v. in_extent c.note.now v) a b
  pub called : (f : ℕ) → g.callee e ≡ Some f →
      IsCalledSo (text_in c.claim.now) (values_in c.claim.now) (stacks_in c.claim.now) (cert c) a (g.entry f)
  pub step : (b : ℕ) → g.target e ≡ Some b → g.callee e ≡ None → (i : Instr) → instr_at (text_in c.claim.now) a ≡ Some i → IsStepAt c a i b
  -- no call comes back into the loop from outside
  pub back : (f b : ℕ) → g.callee e ≡ Some f → g.target e ≡ Some b → b ≡ c.note.now.header → in_extent c.note.now a ≡ true

pub record IsEdgeSo (c : LowerCase) (g : Graph) (e : ℕ) : Type 0 where
  pub quiet_along : (b : ℕ) → g.target e ≡ Some b → (cert c).quiet (g.source e) ≡ true → (cert c).quiet b ≡ true
  pub quiet_calls : (f : ℕ) → g.callee e ≡ Some f → (cert c).quiet (g.source e) ≡ true → (cert c).quiet (g.entry f) ≡ true
  pub live : (values_in c.claim.now).live (g.source e) ≡ true → IsLiveSo c g (g.source e) e

-- of the header
pub record IsHeaderSo (c : LowerCertificate) (h : ℕ) : Type 0 where
  pub registers : counting.HasRegisters c.counter
  pub head : c.body h ≡ true
  pub quiet : c.quiet h ≡ false

-- of the start of a run
abbrev pub IsEntrySo : LowerCase → Type 0
IsEntrySo c = (k : ℕ) × (slice_get c.claim.now.graph.now.code.nodes k ≡ Some c.claim.now.view.now.entry) ×
    ((cert c).body (address c.claim.now k) ≡ false)

abbrev pub AreEdgesSo : LowerCase → Type 0
AreEdgesSo c = (e : ℕ) → e < length c.claim.now.graph.now.code.edges → IsEdgeSo c (graph c.claim.now.graph.now) e
