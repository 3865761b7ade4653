-- Scaffold: a table of turns as what `turn_laws` calls a certificate: by address what stands beside it in the list of nodes, by register what stands in
-- the row.
use Rattle.std.specs.Prelude.{◌≡◌, ◌≢◌, ℕ, ◌+◌, ◌-◌, ◌^◌, ◌<◌, ◌⊎◌, ◌==◌, ◌&&◌, not, nat_lt, is_some, if◌then◌else◌, Option, Bool, true, false, List, [], length, slice_get, map, option_map, Some, None, Vec}
use Rattle.std.specs.declared.alloc.Global.{Global}
use Rattle.scale_base.specs.declared.instruction.Instr.{Instr}
use Rattle.cost_theory.specs.Graph.{Graph}
use Rattle.code_text.specs.Text.{Text, instr_at}
use Rattle.loop_file.specs.Kept.{in_extent}
use Rattle.flow_graph.specs.FlowGraph.{graph}
use Rattle.bound_laws.specs.Values.{Arc, arc, least_of, scaled, top_of, Covers, IsRegister, Values}
use Rattle.stack_laws.specs.Stacks.{Stacks}
use Rattle.stack_tables.specs.Tables.{IsStackClaim, address, stacks_in, text_in, values_in}
use Rattle.value_checks.specs.Tables.{beside, or_other}
use Rattle.stack_tables.specs.declared.claims.StackClaim.{StackClaim}
use Rattle.turn_laws.specs.Relating as relating
use Rattle.turn_laws.specs.Relating.{TurnCertificate}
use Rattle.turn_laws.specs.Relating.Relation.{unknown, ahead_by, below, above, read}
use Rattle.turn_laws.specs.Relating.Place.{in_register, in_word, in_input}
use Rattle.turn_laws.specs.Relating.Kind.{moves, lowers, raises, halves}
use Rattle.turn_checks.specs.declared.tables.Relation.{Relation}
use Rattle.turn_checks.specs.declared.tables.Relation.TheVariants.{Unknown, Ahead, Below, Above, Read}
use Rattle.turn_checks.specs.declared.tables.TurnPlace.{TurnPlace}
use Rattle.turn_checks.specs.declared.tables.TurnPlace.TheVariants.{Register, Word, Input}
use Rattle.turn_checks.specs.declared.tables.TurnKind.{TurnKind}
use Rattle.turn_checks.specs.declared.tables.TurnKind.TheVariants.{Moves, Lowers, Raises, Halves}
use Rattle.turn_checks.specs.declared.tables.TurnTable.{TurnTable}
use Rattle.turn_checks.specs.declared.tables.TurnCase.{TurnCase}
use Rattle.turn_checks.specs.declared.tables.Step.{Step}

abbrev pub relation_view : Relation → relating.Relation
relation_view Unknown = unknown
relation_view (Ahead low more) = ahead_by (Some (arc low more))
relation_view (Below less shift) = below less shift
relation_view (Above more) = above more
relation_view (Read less) = read less

abbrev pub place_view : TurnPlace → relating.Place
place_view (Register r) = in_register r
place_view (Word k) = in_word k
place_view Input = in_input

abbrev pub kind_view : TurnKind → relating.Kind
kind_view (Moves factor shift) = moves factor shift
kind_view Lowers = lowers
kind_view (Raises from) = raises from
kind_view (Halves bits) = halves bits

-- what stands in a row of relations, by register, and nothing behind the last one
abbrev pub relation_in : List Relation → ℕ → relating.Relation
relation_in row r = or_other unknown (option_map relation_view (slice_get row r))

abbrev pub rows_view : List (Vec Relation Global) → List (List Relation)
rows_view rows = map (λ (row : Vec Relation Global). row.items) rows

abbrev pub certificate_of : List ℕ → TurnTable → TurnCertificate
certificate_of nodes t = record {
  place = place_view t.place;
  kind = kind_view t.kind;
  width = t.width;
  least = t.least;
  body = beside false nodes t.body.items;
  row = λ a r. relation_in (beside [] nodes (rows_view t.rows.items) a) r;
  own = λ a. relation_view (beside Unknown nodes t.own.items a);
  used = beside false nodes t.used.items;
  quiet = beside false nodes t.quiet.items;
}

-- the same, which doesn't unfold by itself
unfoldable pub certificate_in : StackClaim → TurnTable → TurnCertificate
certificate_in c t = certificate_of c.graph.now.code.nodes t

-- an entry for each node
pub record AreTurns (nodes : List ℕ) (t : TurnTable) : Type 0 where
  pub body : length t.body.items ≡ length nodes
  pub rows : length t.rows.items ≡ length nodes
  pub own : length t.own.items ≡ length nodes
  pub used : length t.used.items ≡ length nodes
  pub quiet : length t.quiet.items ≡ length nodes

-- ---- what the code says of a table, node by node

-- a table with an entry for each node, for the loop of a note whose header is a node
pub record IsTurnCase (c : TurnCase) : Type 0 where
  pub claim : IsStackClaim c.claim.now
  pub header : c.header < length c.claim.now.graph.now.code.nodes
  pub header_is : address c.claim.now c.header ≡ c.note.now.header
  pub sized : AreTurns c.claim.now.graph.now.code.nodes c.table.now

abbrev pub cert : TurnCase → TurnCertificate
cert c = certificate_in c.claim.now c.table.now

abbrev pub at_of : TurnCase → ℕ → ℕ
at_of c k = address c.claim.now k

-- over a step from a to b, which isn't the header
pub record AreOver (v : Values) (w : Stacks) (c : TurnCertificate) (a : ℕ) (i : Instr) (b : ℕ) : Type 0 where
  pub rows : (r : ℕ) → IsRegister r → relating.IsRowOn v w c a i b r (c.row b r)
  pub own : relating.IsOwnOn v w c a i b c.place (c.own b)
  pub used : c.used b ≡ true → relating.IsUsed v c a i b

-- behind a call at a, where it comes back to b, which isn't the header
pub record AreBack (t : Text) (v : Values) (w : Stacks) (c : TurnCertificate) (a to b : ℕ) : Type 0 where
  pub rows : (r : ℕ) → IsRegister r → relating.IsRowBack t v w c a to r (c.row b r)
  pub own : relating.IsOwnBack v w c a to c.place (c.own b)
  pub used : c.used b ≡ true → c.used a ≡ true

-- a step from a to b within the body
pub record IsStepSo (v : Values) (w : Stacks) (c : TurnCertificate) (header a : ℕ) (i : Instr) (b : ℕ) : Type 0 where
  pub turn : b ≡ header → relating.IsTurnOver v w c a i header
  pub over : b ≢ header → c.body b ≡ true → AreOver v w c a i b

pub record IsBackSo (t : Text) (v : Values) (w : Stacks) (c : TurnCertificate) (header a to b : ℕ) : Type 0 where
  pub turn : b ≡ header → relating.IsTurnBack t v w c a to
  pub back : b ≢ header → c.body b ≡ true → AreBack t v w c a to b

-- an edge from a to b
pub record IsLedSo (c : TurnCertificate) (header : ℕ) (extent : ℕ → Bool) (a b : ℕ) : Type 0 where
  pub counted : b ≡ header → extent a ≡ true → c.body a ≡ true
  pub entered : b ≢ header → c.body b ≡ true → c.body a ≡ true

-- a call at a to b
pub record IsCalledSo (c : TurnCertificate) (header a b : ℕ) : Type 0 where
  pub begins : c.body b ≡ true → b ≡ header
  pub quiet : c.body a ≡ true → c.quiet b ≡ true

-- of the instruction at the source of an edge, where that is in the body
pub record IsSound (c : TurnCase) (g : Graph) (a : ℕ) (i : Instr) (e : ℕ) : Type 0 where
  pub step : (b : ℕ) → g.target e ≡ Some b → g.callee e ≡ None → relating.IsPossible (values_in c.claim.now) a i b →
      IsStepSo (values_in c.claim.now) (stacks_in c.claim.now) (cert c) c.note.now.header a i b
  pub back : (f b : ℕ) → g.callee e ≡ Some f → g.target e ≡ Some b → IsBackSo (text_in c.claim.now) (values_in c.claim.now)
      (stacks_in c.claim.now) (cert c) c.note.now.header a (g.entry f) b

-- of an edge to whose source a run may come
pub record IsLiveSo (c : TurnCase) (g : Graph) (a e : ℕ) : Type 0 where
  pub led : (b : ℕ) → g.target e ≡ Some b → IsLedSo (cert c) c.note.now.header (λ v. in_extent c.note.now v) a b
  pub called : (f : ℕ) → g.callee e ≡ Some f → IsCalledSo (cert c) c.note.now.header a (g.entry f)
  pub sound : (cert c).body a ≡ true → (i : Instr) × (instr_at (text_in c.claim.now) a ≡ Some i) × IsSound c g a i e

pub record IsEdgeTurned (c : TurnCase) (g : Graph) (e : ℕ) : Type 0 where
  pub quiet_along : (b : ℕ) → g.target e ≡ Some b → (cert c).quiet (g.source e) ≡ true → (cert c).quiet b ≡ true
  pub quiet_calls : (f : ℕ) → g.callee e ≡ Some f → (cert c).quiet (g.source e) ≡ true → (cert c).quiet (g.entry f) ≡ true
  pub live : (values_in c.claim.now).live (g.source e) ≡ true → IsLiveSo c g (g.source e) e

-- of the header
pub record IsHeaderSo (v : Values) (w : Stacks) (most : Option ℕ) (c : TurnCertificate) (h : ℕ) : Type 0 where
  pub first : c.body h ≡ true
  pub rows : (r : ℕ) → IsRegister r → (c.row h r ≡ unknown) ⊎ ((c.place ≡ in_register r) × relating.IsBegun (c.row h r))
  pub owns : relating.IsBegun (c.own h)
  pub unused : c.used h ≡ false
  pub started : relating.IsStartedIn v w most c h c.place
  pub quiet : c.quiet h ≡ false

-- of the start of a run
abbrev pub IsEntrySo : TurnCase → Type 0
IsEntrySo c = (k : ℕ) × (slice_get c.claim.now.graph.now.code.nodes k ≡ Some c.claim.now.view.now.entry) ×
    ((cert c).body (address c.claim.now k) ≡ true → k ≡ c.header)

abbrev pub AreEdgesTurned : TurnCase → Type 0
AreEdgesTurned c = (e : ℕ) → e < length c.claim.now.graph.now.code.edges → IsEdgeTurned c (graph c.claim.now.graph.now) e

-- a multiple of the numbers of an interval is at least so much, and so much that with the width it is a word
abbrev pub IsMoved : (factor low more least width : ℕ) → Type 0
IsMoved factor low more least width = (most : ℕ) × Covers (Some (arc least most)) (scaled factor (Some (arc low more))) ×
    (least + most + width < 2 ^ 32)

-- ---- of relations

-- how much less a sum of what is in an interval is, where the other number is 2^32 less that
abbrev pub taken_by : Option Arc → ℕ → Option ℕ
taken_by i n = if n == 0 then Some 0 else if nat_lt (2 ^ 32 - 1) (least_of i + n) then Some (2 ^ 32 - n) else None

-- how much more a sum is than so much
abbrev pub added_by : ℕ → Option Arc → ℕ → Option ℕ
added_by more i n =
    if nat_lt (top_of i + n) (2 ^ 32) then Some (more + n)
    else if nat_lt (2 ^ 32 - 1) (more + n) then Some (more + n - 2 ^ 32)
    else None

-- how much more a sum of values of two intervals is than the first one, where it is a word
abbrev pub more_by : (i j : Option Arc) → Option ℕ
more_by i j = if nat_lt (top_of i + top_of j) (2 ^ 32) then Some (least_of j) else None

-- how much less a difference of their values is, where it doesn't wrap
abbrev pub less_by : (i j : Option Arc) → Option ℕ
less_by i j = if (is_some i && is_some j) && not (nat_lt (least_of i) (top_of j)) then Some (least_of j) else None

-- ---- steps

-- the numbers of a step are those of nodes
pub record IsStep (c : TurnCase) (s : Step) : Type 0 where
  pub from : s.from < length c.claim.now.graph.now.code.nodes
  pub to : s.to < length c.claim.now.graph.now.code.nodes
