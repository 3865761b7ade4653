-- Scaffold: a certificate of a loop by lists, as what `stack_laws` calls a certificate, and what the code says of it, edge by edge.
use Rattle.std.specs.Prelude.{◌≡◌, ◌≢◌, ℕ, ◌+◌, ◌*◌, ◌%◌, ◌^◌, ◌<◌, ◌≤◌, Bool, true, false, List, length, slice_get, Option, Some, None}
use Rattle.scale_base.specs.declared.instruction.Instr.{Instr}
use Rattle.loop_file.specs.Kept.{in_extent}
use Rattle.cost_theory.specs.Graph.{Graph}
use Rattle.cost_theory.specs.Reached.{Code}
use Rattle.code_text.specs.Text.{instr_at}
use Rattle.code_text.specs.TextGraph.{text_graph}
use Rattle.flow_graph.specs.FlowGraph.{graph}
use Rattle.bound_laws.specs.Registers.{Measure}
use Rattle.bound_laws.specs.Values.{Arc, Covers, arc, line_of}
use Rattle.wrapped_intervals.specs.Small.{measure_view, row}
use Rattle.value_checks.specs.Tables.{beside, or_other}
use Rattle.stack_laws.specs.Stacks.{Stacks, Name, name_of, IsStoredFrom}
use Rattle.stack_laws.specs.Stacks.Name.{of_word}
use Rattle.stack_laws.specs.Counting as counting
use Rattle.stack_laws.specs.Counting.{Counter, added_behind, IsAdded, IsKeptBy, IsStackCertificate}
use Rattle.stack_laws.specs.Counting.Counter.{in_registers, in_word}
use Rattle.stack_tables.specs.Tables.{claim_stacks, claim_text, claim_values, IsStackClaim}
use Rattle.shown_bounds.specs.declared.counters.StackCounter.{StackCounter}
use Rattle.shown_bounds.specs.declared.counters.StackCounter.TheVariants.{InRegisters, InWord}
use Rattle.shown_bounds.specs.declared.certificates.StackCertificate.{StackCertificate}
use Rattle.shown_bounds.specs.declared.certificates.Case.{Case}

abbrev pub counter_view : StackCounter → Counter
counter_view (InRegisters m) = in_registers (measure_view m)
counter_view (InWord number factor shift) = in_word number factor shift

-- ---- of one instruction

-- the name is that of the word with so much more that so many times it is what is added
abbrev pub IsMore : Option Name → (word factor adds : ℕ) → Type 0
IsMore name word factor adds = (more : ℕ) × (name ≡ Some (of_word word more)) × (adds ≡ factor * more % 2 ^ 32)

-- the instruction stores a register with such a name to the word
abbrev pub IsCountedFrom : Stacks → ℕ → Instr → (word factor adds : ℕ) → Type 0
IsCountedFrom w a i word factor adds = (r : ℕ) × IsStoredFrom w a i word r × IsMore (name_of w a r) word factor adds

-- the sum of registers is from 0 to the width, by the intervals of a row
abbrev pub AreRegistersWithin : List (Option Arc) → Measure → ℕ → Type 0
AreRegistersWithin arcs m width = Covers (Some (arc 0 width)) (line_of m (row arcs))

-- ---- what stands at the number of a node

abbrev pub body_at : StackCertificate → ℕ → Bool
body_at c k = or_other false (slice_get c.body.items k)

abbrev pub quiet_at : StackCertificate → ℕ → Bool
quiet_at c k = or_other false (slice_get c.quiet.items k)

abbrev pub adds_at : StackCertificate → ℕ → ℕ
adds_at c k = or_other 0 (slice_get c.adds.items k)

abbrev pub offset_at : StackCertificate → ℕ → ℕ
offset_at c k = or_other 0 (slice_get c.offset.items k)

-- what has been added behind the instruction at node k
abbrev pub behind_at : StackCertificate → ℕ → ℕ
behind_at c k = (offset_at c k + adds_at c k) % 2 ^ 32

abbrev pub certificate_of : Code → StackCertificate → counting.StackCertificate
certificate_of code c = record {
  counter = counter_view c.counter;
  width = c.width;
  least = c.least;
  body = beside false code.nodes c.body.items;
  adds = beside 0 code.nodes c.adds.items;
  offset = beside 0 code.nodes c.offset.items;
  quiet = beside false code.nodes c.quiet.items;
}

-- an entry for each node
pub record AreEntries (nodes : List ℕ) (c : StackCertificate) : Type 0 where
  pub body : length c.body.items ≡ length nodes
  pub adds : length c.adds.items ≡ length nodes
  pub offset : length c.offset.items ≡ length nodes
  pub quiet : length c.quiet.items ≡ length nodes

-- a certificate with an entry for each node, for the loop of a note whose header is a node
pub record IsCase (c : Case) : Type 0 where
  pub claim : IsStackClaim c.claim.now
  pub header : slice_get c.claim.now.graph.now.code.nodes c.header ≡ Some c.note.now.header
  pub entries : AreEntries c.claim.now.graph.now.code.nodes c.certificate.now

abbrev pub IsNode : Case → (k a : ℕ) → Type 0
IsNode c k a = slice_get c.claim.now.graph.now.code.nodes k ≡ Some a

-- an edge from node k to the header
pub record IsTurnAt (c : Case) (k : ℕ) : Type 0 where
  -- what is counted as a turn comes from the body
  pub counted : (a : ℕ) → IsNode c k a → in_extent c.note.now a ≡ true → body_at c.certificate.now k ≡ true
  pub raises : body_at c.certificate.now k ≡ true → (c.certificate.now.least ≤ behind_at c.certificate.now k) ×
      (behind_at c.certificate.now k + c.certificate.now.width < 2 ^ 32)

-- an edge from node k to node n, which isn't the header
abbrev pub IsAlongAt : Case → (k n : ℕ) → Type 0
IsAlongAt c k n = body_at c.certificate.now n ≡ true → (body_at c.certificate.now k ≡ true) ×
    (offset_at c.certificate.now n ≡ behind_at c.certificate.now k)

-- an edge from node k to node n
pub record IsLedAt (c : Case) (k n : ℕ) : Type 0 where
  pub turn : n ≡ c.header → IsTurnAt c k
  pub along : n ≢ c.header → IsAlongAt c k n

-- the instruction at node k adds what the certificate says
abbrev pub IsCountedAt : Case → ℕ → Type 0
IsCountedAt c k = (a : ℕ) (i : Instr) → IsNode c k a → instr_at (claim_text c.claim.now) a ≡ Some i →
    IsAdded (claim_values c.claim.now) (claim_stacks c.claim.now) (counter_view c.certificate.now.counter) a i (adds_at c.certificate.now k)

-- the call at node k of the function that begins at node h keeps the counter
abbrev pub IsKeptAt : Case → (k h : ℕ) → Type 0
IsKeptAt c k h = (a b : ℕ) → IsNode c k a → IsNode c h b → IsKeptBy (claim_text c.claim.now) (claim_values c.claim.now)
    (claim_stacks c.claim.now) a b (counter_view c.certificate.now.counter)

-- a call at node k of the function that begins at node h
pub record IsCalledAt (c : Case) (k h : ℕ) : Type 0 where
  pub begins : body_at c.certificate.now h ≡ true → h ≡ c.header
  pub calls : body_at c.certificate.now k ≡ true → (quiet_at c.certificate.now h ≡ true) × (adds_at c.certificate.now k ≡ 0) ×
      IsKeptAt c k h

-- quiet code stays quiet on the way from node k to node n
abbrev pub IsQuietAt : Case → (k n : ℕ) → Type 0
IsQuietAt c k n = quiet_at c.certificate.now k ≡ true → quiet_at c.certificate.now n ≡ true

-- ---- the same as `stack_laws` says it, of an edge

abbrev pub code_certificate : Case → counting.StackCertificate
code_certificate c = certificate_of c.claim.now.graph.now.code c.certificate.now

abbrev pub case_graph : Case → Graph
case_graph c = graph c.claim.now.graph.now

abbrev pub is_live_there : Case → ℕ → Bool
is_live_there c a = (claim_values c.claim.now).live a

-- of an edge that leads to the header
pub record IsTurnSo (c : Case) (a : ℕ) : Type 0 where
  pub counted : in_extent c.note.now a ≡ true → (code_certificate c).body a ≡ true
  pub raises : (code_certificate c).body a ≡ true → (c.certificate.now.least ≤ added_behind (code_certificate c) a) ×
      (added_behind (code_certificate c) a + c.certificate.now.width < 2 ^ 32)

-- of an edge that leads to a node
pub record IsLedTo (c : Case) (a b : ℕ) : Type 0 where
  pub turn : b ≡ c.note.now.header → IsTurnSo c a
  pub along : b ≢ c.note.now.header → (code_certificate c).body b ≡ true → ((code_certificate c).body a ≡ true) ×
      ((code_certificate c).offset b ≡ added_behind (code_certificate c) a)

abbrev pub IsLedSo : Case → ℕ → Type 0
IsLedSo c e = (b : ℕ) → (case_graph c).target e ≡ Some b → IsLedTo c ((case_graph c).source e) b

-- of a step that is no call
abbrev pub IsStepSo : Case → ℕ → Type 0
IsStepSo c e = (b : ℕ) (i : Instr) → (case_graph c).target e ≡ Some b → (case_graph c).callee e ≡ None →
    (code_certificate c).body ((case_graph c).source e) ≡ true → instr_at (claim_text c.claim.now) ((case_graph c).source e) ≡ Some i →
    IsAdded (claim_values c.claim.now) (claim_stacks c.claim.now) (code_certificate c).counter ((case_graph c).source e) i
    ((code_certificate c).adds ((case_graph c).source e))

-- of a call
pub record IsCalledTo (c : Case) (a b : ℕ) : Type 0 where
  pub begins : (code_certificate c).body b ≡ true → b ≡ c.note.now.header
  pub calls : (code_certificate c).body a ≡ true → ((code_certificate c).quiet b ≡ true) × ((code_certificate c).adds a ≡ 0) ×
      IsKeptBy (claim_text c.claim.now) (claim_values c.claim.now) (claim_stacks c.claim.now) a b (code_certificate c).counter

abbrev pub IsCalledSo : Case → ℕ → Type 0
IsCalledSo c e = (f : ℕ) → (case_graph c).callee e ≡ Some f → IsCalledTo c ((case_graph c).source e) ((case_graph c).entry f)

-- of quiet code
abbrev pub IsQuietAlong : Case → ℕ → Type 0
IsQuietAlong c e = (b : ℕ) → (case_graph c).target e ≡ Some b → (code_certificate c).quiet ((case_graph c).source e) ≡ true →
    (code_certificate c).quiet b ≡ true

abbrev pub IsQuietCalled : Case → ℕ → Type 0
IsQuietCalled c e = (f : ℕ) → (case_graph c).callee e ≡ Some f → (code_certificate c).quiet ((case_graph c).source e) ≡ true →
    (code_certificate c).quiet ((case_graph c).entry f) ≡ true

-- of an edge to whose source a run may come
pub record IsLiveSo (c : Case) (e : ℕ) : Type 0 where
  pub leads : IsLedSo c e
  pub steps : IsStepSo c e
  pub calls : IsCalledSo c e

pub record IsEdgeCertified (c : Case) (e : ℕ) : Type 0 where
  pub quiet_along : IsQuietAlong c e
  pub quiet_calls : IsQuietCalled c e
  pub live : is_live_there c ((case_graph c).source e) ≡ true → IsLiveSo c e

abbrev pub AreEdgesCertified : Case → Type 0
AreEdgesCertified c = (e : ℕ) → e < length c.claim.now.graph.now.code.edges → IsEdgeCertified c e

-- of the header, and of the start of a run
pub record IsBegun (c : Case) : Type 0 where
  pub registers : counting.HasRegisters (counter_view c.certificate.now.counter)
  pub first : body_at c.certificate.now c.header ≡ true
  pub begins : offset_at c.certificate.now c.header ≡ 0
  pub quiet : quiet_at c.certificate.now c.header ≡ false
  pub started : (k : ℕ) → slice_get c.claim.now.graph.now.code.nodes k ≡ Some c.claim.now.view.now.entry →
      body_at c.certificate.now k ≡ true → k ≡ c.header
  pub start : (k : ℕ) × (slice_get c.claim.now.graph.now.code.nodes k ≡ Some c.claim.now.view.now.entry)

abbrev pub IsCertified : Case → Type 0
IsCertified c = IsStackCertificate (claim_text c.claim.now) (text_graph (claim_text c.claim.now) c.claim.now.graph.now.code)
    (claim_values c.claim.now) (claim_stacks c.claim.now) c.note.now.header (λ v. in_extent c.note.now v) (code_certificate c)
