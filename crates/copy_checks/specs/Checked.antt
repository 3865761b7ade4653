-- Scaffold: certificates of copies by lists, as what `copy_bounds` calls a certificate, and what the code says of them, edge by edge.
use Rattle.std.specs.Prelude.{◌≡◌, ◌≢◌, ◌==◌, ℕ, ◌<◌, ◌⊎◌, Bool, true, false, List, length, slice_get, option_map, Option, Some, None, Vec}
use Rattle.std.specs.declared.alloc.Global.{Global}
use Rattle.loop_file.specs.declared.notes.LoopNote.{LoopNote}
use Rattle.loop_file.specs.Kept.{in_extent, note_at, noted_loops}
use Rattle.code_text.specs.Text.{Text}
use Rattle.code_text.specs.TextGraph.{text_graph}
use Rattle.flow_graph.specs.FlowGraph.{graph, FlowGraph, IsFlowGraph, IsGraphOf}
use Rattle.value_checks.specs.Tables.{beside, or_other}
use Rattle.copy_bounds.specs.Copies.{counts_from, CopiesLoop, CopyCertificate, Meaning}
use Rattle.copy_checks.specs.declared.tables.Meant.{Meant}
use Rattle.copy_checks.specs.declared.tables.CopyTable.{CopyTable}
use Rattle.copy_checks.specs.declared.tables.CopyCase.{CopyCase}
use Rattle.copy_checks.specs.declared.tables.CopyCode.{CopyCode}
use Rattle.copy_checks.specs.declared.covering.CopyReason.{CopyReason}

-- ---- what nodes stand for

abbrev pub opened_items : Option (Vec ℕ Global) → Option (List ℕ)
opened_items rs = option_map (λ (r : Vec ℕ Global). r.items) rs

-- what an address stands for
pub record IsMeant (m : Meaning) (a : ℕ) (x : Meant) : Type 0 where
  pub text_at : x.text_at ≡ m.text_at a
  pub is_extra : x.is_extra ≡ m.is_extra a
  pub is_own : x.is_own ≡ m.is_own a
  pub returns : x.returns.items ≡ m.open_at a
  pub behind : opened_items x.behind ≡ m.opened_at a
  pub source : x.source ≡ m.source_at a

-- what each node stands for
abbrev pub AreMeant : Meaning → List ℕ → List Meant → Type 0
AreMeant m nodes meant = (k a : ℕ) → slice_get nodes k ≡ Some a → (x : Meant) × (slice_get meant k ≡ Some x) × IsMeant m a x

-- ---- what stands at the number of a node

abbrev pub body_at : CopyTable → ℕ → Bool
body_at t k = or_other false (slice_get t.body.items k)

abbrev pub quiet_at : CopyTable → ℕ → Bool
quiet_at t k = or_other false (slice_get t.quiet.items k)

abbrev pub ahead_at : CopyTable → ℕ → Bool
ahead_at t k = or_other false (slice_get t.ahead.items k)

abbrev pub extra_at : List Meant → ℕ → Bool
extra_at meant k = or_other false (option_map (λ (x : Meant). x.is_extra) (slice_get meant k))

abbrev pub stands_at : List Meant → ℕ → ℕ → Bool
stands_at meant k at = or_other false (option_map (λ (x : Meant). x.text_at == at) (slice_get meant k))

abbrev pub counts_by : LoopNote → Option ℕ → Bool
counts_by old source = counts_from (λ v. in_extent old v) source

abbrev pub counts_at : List Meant → LoopNote → ℕ → Bool
counts_at meant old k = or_other false (option_map (λ (x : Meant). counts_by old x.source) (slice_get meant k))

abbrev pub certificate_of : List ℕ → CopyTable → CopyCertificate
certificate_of nodes t = record {
  body = beside false nodes t.body.items;
  quiet = beside false nodes t.quiet.items;
  ahead = beside false nodes t.ahead.items;
}

-- an entry for each node
pub record AreEntries (nodes : List ℕ) (t : CopyTable) : Type 0 where
  pub body : length t.body.items ≡ length nodes
  pub quiet : length t.quiet.items ≡ length nodes
  pub ahead : length t.ahead.items ≡ length nodes

-- a table with an entry for each node, for the loop of a note whose header is a node
pub record IsCase (c : CopyCase) : Type 0 where
  pub flow : IsFlowGraph c.graph.now
  pub header : slice_get c.graph.now.code.nodes c.header ≡ Some c.note.now.header
  pub meant : length c.meant.now ≡ length c.graph.now.code.nodes
  pub entries : AreEntries c.graph.now.code.nodes c.table.now

abbrev pub IsNode : CopyCase → (k a : ℕ) → Type 0
IsNode c k a = slice_get c.graph.now.code.nodes k ≡ Some a

-- ---- what the code says, by the numbers of nodes

-- an edge from node k to the header
pub record IsTurnAt (c : CopyCase) (k : ℕ) : Type 0 where
  pub counts : (a : ℕ) → IsNode c k a → in_extent c.note.now a ≡ true → body_at c.table.now k ≡ true
  pub turns : (a : ℕ) → IsNode c k a → body_at c.table.now k ≡ true → in_extent c.note.now a ≡ true → extra_at c.meant.now k ≡ true →
      ahead_at c.table.now k ≡ true

-- an edge from node k to node n, which isn't the header
pub record IsAlongAt (c : CopyCase) (k n : ℕ) : Type 0 where
  pub entered : body_at c.table.now n ≡ true → body_at c.table.now k ≡ true
  pub ahead : body_at c.table.now k ≡ true → body_at c.table.now n ≡ true → ahead_at c.table.now n ≡ true →
      (ahead_at c.table.now k ≡ true) ⊎ ((extra_at c.meant.now k ≡ false) × (stands_at c.meant.now n c.old.now.header ≡ true))

-- an edge within the body, where the original comes to its header
abbrev pub IsComingAt : CopyCase → (k n : ℕ) → Type 0
IsComingAt c k n = body_at c.table.now k ≡ true → body_at c.table.now n ≡ true → extra_at c.meant.now k ≡ false →
    stands_at c.meant.now n c.old.now.header ≡ true → counts_at c.meant.now c.old.now k ≡ true

-- quiet code stays quiet on the way from node k to node n
abbrev pub IsQuietAt : CopyCase → (k n : ℕ) → Type 0
IsQuietAt c k n = quiet_at c.table.now k ≡ true → quiet_at c.table.now n ≡ true

-- an edge from node k to node n
pub record IsLedAt (c : CopyCase) (k n : ℕ) : Type 0 where
  pub turn : n ≡ c.header → IsTurnAt c k
  pub along : n ≢ c.header → IsAlongAt c k n
  pub comes : IsComingAt c k n
  pub quiet : IsQuietAt c k n

-- a call at node k of the function that begins at node h
pub record IsCalledAt (c : CopyCase) (k h : ℕ) : Type 0 where
  pub begins : body_at c.table.now h ≡ true → h ≡ c.header
  pub calls : body_at c.table.now k ≡ true → quiet_at c.table.now h ≡ true
  pub quiet : IsQuietAt c k h

-- of an edge that leads to a node
abbrev pub IsLedSo : CopyCase → ℕ → Type 0
IsLedSo c e = (b : ℕ) → (graph c.graph.now).target e ≡ Some b → (k : ℕ) × (n : ℕ) × IsNode c k ((graph c.graph.now).source e) ×
    IsNode c n b × IsLedAt c k n

-- of a call
abbrev pub IsCalledSo : CopyCase → ℕ → Type 0
IsCalledSo c e = (f : ℕ) → (graph c.graph.now).callee e ≡ Some f → (k : ℕ) × (h : ℕ) × IsNode c k ((graph c.graph.now).source e) ×
    IsNode c h ((graph c.graph.now).entry f) × IsCalledAt c k h

pub record IsEdgeSo (c : CopyCase) (e : ℕ) : Type 0 where
  pub leads : IsLedSo c e
  pub calls : IsCalledSo c e

abbrev pub AreEdgesSo : CopyCase → Type 0
AreEdgesSo c = (e : ℕ) → e < length c.graph.now.code.edges → IsEdgeSo c e

-- no quiet node stands for the header of the original
abbrev pub IsApart : CopyCase → ℕ → Type 0
IsApart c k = quiet_at c.table.now k ≡ true → stands_at c.meant.now k c.old.now.header ≡ false

abbrev pub AreApart : CopyCase → Type 0
AreApart c = (k : ℕ) → k < length c.graph.now.code.nodes → IsApart c k

-- a run doesn't start within the body, but at the header
abbrev pub IsStarted : CopyCase → ℕ → Type 0
IsStarted c entry = (k : ℕ) → slice_get c.graph.now.code.nodes k ≡ Some entry → body_at c.table.now k ≡ true → k ≡ c.header

-- of the header, and of the start of a run
pub record IsBegun (c : CopyCase) (entry : ℕ) : Type 0 where
  pub first : body_at c.table.now c.header ≡ true
  pub begins : ahead_at c.table.now c.header ≡ false
  pub stands : stands_at c.meant.now c.header c.old.now.header ≡ true
  pub started : IsStarted c entry

-- ---- the inlined calls that are open

-- what is open behind node k is open at node n
abbrev pub IsKeptAt : List Meant → (k n : ℕ) → Type 0
IsKeptAt meant k n = (x y : Meant) → slice_get meant k ≡ Some x → slice_get meant n ≡ Some y → x.is_own ≡ false →
    opened_items x.behind ≡ Some y.returns.items

-- the same of an edge
abbrev pub IsKeptSo : FlowGraph → List Meant → ℕ → Type 0
IsKeptSo v meant e = (b : ℕ) → (graph v).target e ≡ Some b → (k : ℕ) × (n : ℕ) × (slice_get v.code.nodes k ≡ Some ((graph v).source e)) ×
    (slice_get v.code.nodes n ≡ Some b) × IsKeptAt meant k n

-- ---- all loops of a versioned image

-- the loop of a note copies one of others
abbrev pub IsCopied : CopyCode → LoopNote → List LoopNote → Type 0
IsCopied c note olds = (m : Meaning) (t : Text) (notes : List LoopNote) (k : ℕ) → IsGraphOf t c.graph.now → t.entry ≡ c.entry →
    AreMeant m c.graph.now.code.nodes c.meant.now → note_at notes k ≡ note →
    CopiesLoop m t (text_graph t c.graph.now.code) (noted_loops olds) (noted_loops notes) k

-- it doesn't have to turn, and is one, or has no reason here
pub record IsCovered (c : CopyCode) (note : LoopNote) (olds : List LoopNote) (reason : Option CopyReason) : Type 0 where
  pub late : note.at_least ≡ 0
  pub copied : (reason ≡ None) ⊎ IsCopied c note olds

abbrev pub AreCopied : CopyCode → List LoopNote → List LoopNote → List (Option CopyReason) → Type 0
AreCopied c notes olds reasons = (k : ℕ) → k < length notes → (reason : Option CopyReason) × (slice_get reasons k ≡ Some reason) ×
    IsCovered c (note_at notes k) olds reason
