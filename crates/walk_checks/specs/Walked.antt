-- Scaffold: a table of a walk as what `walk_areas` calls a certificate: by address what stands beside it in the list of nodes, by register what stands in
-- the row, and by number of a word what the row of words says first of it.
use Rattle.std.specs.Prelude.{◌≡◌, ◌≢◌, ℕ, ℤ, ◌+◌, ◌%◌, ◌^◌, ◌<◌, ◌≤◌, ◌⊎◌, ◌==◌, Option, Bool, true, false, List, [], length, slice_get, map, option_and_then, option_map, Some, None, Vec}
use Rattle.std.specs.List.{All, find}
use Rattle.std.specs.declared.alloc.Global.{Global}
use Rattle.scale_base.specs.declared.instruction.LoadOp.{LoadOp}
use Rattle.scale_base.specs.declared.instruction.Instr.{Instr}
use Rattle.scale_base.specs.declared.instruction.Instr.TheVariants.{Load}
use Rattle.cost_theory.specs.Graph.{Graph}
use Rattle.code_text.specs.Text.{Text, instr_at}
use Rattle.loop_file.specs.Kept.{in_extent}
use Rattle.flow_graph.specs.FlowGraph.{graph}
use Rattle.bound_laws.specs.Values.{Arc, IsIn, IsHeld, Covers, held, meet_of, sum_with, IsRegister, Values}
use Rattle.stack_laws.specs.Areas.{AreDisjoint}
use Rattle.stack_laws.specs.Stacks.{Stacks}
use Rattle.stack_tables.specs.Tables.{IsStackClaim, address, fixed_in, stacks_in, text_in, values_in}
use Rattle.value_checks.specs.Tables.{beside}
use Rattle.stack_tables.specs.declared.claims.StackClaim.{StackClaim}
use Rattle.stack_tables.specs.declared.tables.FixedPart.{FixedPart}
use Rattle.walk_areas.specs.Walking as walking
use Rattle.walk_areas.specs.Walking.{WalkCertificate, traced, IsWider, IsBeyond, IsRowOver, IsWordOver, IsPlaceOver, IsRowBack, IsWordBack, IsPlaceBack}
use Rattle.walk_areas.specs.Walking.Place.{in_register, in_word}
use Rattle.walk_checks.specs.declared.tables.Sought.{Sought}
use Rattle.walk_checks.specs.declared.tables.Trace.{Trace}
use Rattle.walk_checks.specs.declared.tables.WalkPlace.{WalkPlace}
use Rattle.walk_checks.specs.declared.tables.WalkPlace.TheVariants.{Register, Word}
use Rattle.walk_checks.specs.declared.tables.WordTrace.{WordTrace}
use Rattle.walk_checks.specs.declared.tables.WalkTable.{WalkTable}
use Rattle.walk_checks.specs.declared.tables.WalkCase.{WalkCase}
use Rattle.walk_checks.specs.declared.tables.Step.{Step}
use Rattle.walk_checks.specs.declared.traces.Found.{Found}

abbrev pub trace_view : Trace → walking.Trace
trace_view t = record { firsts = t.firsts; seconds = t.seconds; more = Some t.more }

abbrev pub traced_view : Option Trace → Option walking.Trace
traced_view t = option_map trace_view t

-- the same of a trace that is found from others
abbrev pub found_view : Found → Option walking.Trace
found_view f = traced f.firsts f.seconds f.more

abbrev pub place_view : WalkPlace → walking.Place
place_view (Register r) = in_register r
place_view (Word k) = in_word k

-- what stands in a row of traces, by register, and nothing behind the last one
abbrev pub trace_in : List (Option Trace) → ℕ → Option walking.Trace
trace_in row r = traced_view (option_and_then (λ t. t) (slice_get row r))

-- what a row says of a word, by its number
abbrev pub word_in : List WordTrace → ℕ → Option walking.Trace
word_in row k = option_map (λ (x : WordTrace). trace_view x.trace) (find (λ (x : WordTrace). x.number == k) row)

abbrev pub rows_view : List (Vec (Option Trace) Global) → List (List (Option Trace))
rows_view rows = map (λ (row : Vec (Option Trace) Global). row.items) rows

abbrev pub words_view : List (Vec WordTrace Global) → List (List WordTrace)
words_view rows = map (λ (row : Vec WordTrace Global). row.items) rows

abbrev pub sought_view : Sought → walking.Sought
sought_view s = record { op = s.op; wanted = s.wanted }

-- an interval of the ground, by its number
abbrev pub ground : List Arc → ℕ → Option Arc
ground intervals k = slice_get intervals k

abbrev pub certificate_of : List ℕ → WalkTable → WalkCertificate
certificate_of nodes t = record {
  first = place_view t.first;
  first_factor = t.first_factor;
  second = place_view t.second;
  second_factor = t.second_factor;
  at = t.at;
  down = t.down;
  least = t.least;
  spread = t.spread;
  width = t.width;
  place = t.place;
  start = t.start;
  sought = option_map sought_view t.sought;
  ground = λ k. ground t.ground.items k;
  body = beside false nodes t.body.items;
  row = λ a r. trace_in (beside [] nodes (rows_view t.rows.items) a) r;
  word = λ a k. word_in (beside [] nodes (words_view t.words.items) a) k;
  touched = beside false nodes t.touched.items;
  holder = beside None nodes t.holders.items;
  quiet = beside false nodes t.quiet.items;
}

-- the same, which doesn't unfold by itself
unfoldable pub certificate_in : StackClaim → WalkTable → WalkCertificate
certificate_in c t = certificate_of c.graph.now.code.nodes t

-- an entry for each node
pub record AreWalks (nodes : List ℕ) (t : WalkTable) : Type 0 where
  pub body : length t.body.items ≡ length nodes
  pub rows : length t.rows.items ≡ length nodes
  pub words : length t.words.items ≡ length nodes
  pub touched : length t.touched.items ≡ length nodes
  pub holders : length t.holders.items ≡ length nodes
  pub quiet : length t.quiet.items ≡ length nodes

-- ---- traces that are found

-- each trace that says no more than what was found is one of a register, or of a word, behind the instruction at a
abbrev pub IsRowFound : Values → Stacks → WalkCertificate → (a : ℕ) → Instr → (r : ℕ) → Option walking.Trace → Type 0
IsRowFound v w c a i r z = (b : Option walking.Trace) → IsWider b z → IsRowOver v w c a i r b

abbrev pub IsWordFound : Values → Stacks → WalkCertificate → (a : ℕ) → Instr → (k : ℕ) → Option walking.Trace → Type 0
IsWordFound v w c a i k z = (b : Option walking.Trace) → IsWider b z → IsWordOver v w c a i k b

abbrev pub IsPlaceFound : Values → Stacks → WalkCertificate → (a : ℕ) → Instr → walking.Place → Option walking.Trace → Type 0
IsPlaceFound v w c a i p z = (b : Option walking.Trace) → IsWider b z → IsPlaceOver v w c a i p b

-- and so behind a call
abbrev pub IsRowFoundBack : Text → Values → Stacks → WalkCertificate → (a to r : ℕ) → Option walking.Trace → Type 0
IsRowFoundBack t v w c a to r z = (b : Option walking.Trace) → IsWider b z → IsRowBack t v w c a to r b

abbrev pub IsWordFoundBack : Values → Stacks → WalkCertificate → (a to k : ℕ) → Option walking.Trace → Type 0
IsWordFoundBack v w c a to k z = (b : Option walking.Trace) → IsWider b z → IsWordBack v w c a to k b

abbrev pub IsPlaceFoundBack : Text → Values → Stacks → WalkCertificate → (a to : ℕ) → walking.Place → Option walking.Trace → Type 0
IsPlaceFoundBack t v w c a to p z = (b : Option walking.Trace) → IsWider b z → IsPlaceBack t v w c a to p b

-- ---- what the code says of a table, node by node

-- a table with an entry for each node, for the loop of a note whose header is a node
pub record IsWalkCase (c : WalkCase) : Type 0 where
  pub claim : IsStackClaim c.claim.now
  pub header : c.header < length c.claim.now.graph.now.code.nodes
  pub header_is : address c.claim.now c.header ≡ c.note.now.header
  pub sized : AreWalks c.claim.now.graph.now.code.nodes c.table.now

abbrev pub cert : WalkCase → WalkCertificate
cert c = certificate_in c.claim.now c.table.now

abbrev pub at_of : WalkCase → ℕ → ℕ
at_of c k = address c.claim.now k

-- the numbers of a step are those of nodes
pub record IsStep (c : WalkCase) (s : Step) : Type 0 where
  pub from : s.from < length c.claim.now.graph.now.code.nodes
  pub to : s.to < length c.claim.now.graph.now.code.nodes

-- over a step from a to b, which isn't the header
pub record AreOver (v : Values) (w : Stacks) (c : WalkCertificate) (a : ℕ) (i : Instr) (b : ℕ) : Type 0 where
  pub rows : (r : ℕ) → IsRegister r → IsRowOver v w c a i r (c.row b r)
  pub words : (k : ℕ) → IsWordOver v w c a i k (c.word b k)
  pub touched : c.touched b ≡ true → walking.IsTouched v c a i b
  pub holder : walking.IsHolderOver v c a i (c.holder b)

-- behind a call at a, where it comes back to b, which isn't the header
pub record AreBack (t : Text) (v : Values) (w : Stacks) (c : WalkCertificate) (a to b : ℕ) : Type 0 where
  pub rows : (r : ℕ) → IsRegister r → IsRowBack t v w c a to r (c.row b r)
  pub words : (k : ℕ) → IsWordBack v w c a to k (c.word b k)
  pub touched : c.touched b ≡ true → c.touched a ≡ true
  pub holder : walking.IsHolderBack t v w c a to (c.holder b)

-- a step from a to b within the body
pub record IsStepSo (v : Values) (w : Stacks) (c : WalkCertificate) (header a : ℕ) (i : Instr) (b : ℕ) : Type 0 where
  pub turn : b ≡ header → walking.IsTurnOver v w c a i b
  pub over : b ≢ header → c.body b ≡ true → AreOver v w c a i b

pub record IsBackSo (t : Text) (v : Values) (w : Stacks) (c : WalkCertificate) (header a to b : ℕ) : Type 0 where
  pub turn : b ≡ header → walking.IsTurnBack t v w c a to
  pub back : b ≢ header → c.body b ≡ true → AreBack t v w c a to b

-- an edge from a to b
pub record IsLedSo (c : WalkCertificate) (header : ℕ) (extent : ℕ → Bool) (a b : ℕ) : Type 0 where
  pub counted : b ≡ header → extent a ≡ true → c.body a ≡ true
  pub entered : b ≢ header → c.body b ≡ true → c.body a ≡ true

-- a call at a to b
pub record IsCalledSo (c : WalkCertificate) (header a b : ℕ) : Type 0 where
  pub begins : c.body b ≡ true → b ≡ header
  pub quiet : c.body a ≡ true → c.quiet b ≡ true

-- of the instruction at the source of an edge, where that is in the body
pub record IsSound (c : WalkCase) (g : Graph) (a : ℕ) (i : Instr) (e : ℕ) : Type 0 where
  pub step : (b : ℕ) → g.target e ≡ Some b → g.callee e ≡ None → walking.IsPossible (values_in c.claim.now) a i b →
      IsStepSo (values_in c.claim.now) (stacks_in c.claim.now) (cert c) c.note.now.header a i b
  pub back : (f b : ℕ) → g.callee e ≡ Some f → g.target e ≡ Some b → IsBackSo (text_in c.claim.now) (values_in c.claim.now)
      (stacks_in c.claim.now) (cert c) c.note.now.header a (g.entry f) b

-- the first turn behind a step from a to b accesses memory where the table says, if a state may come this way
abbrev pub IsStartedFrom : WalkCase → (a b : ℕ) → Type 0
IsStartedFrom c a b = (i : Instr) × (instr_at (text_in c.claim.now) a ≡ Some i) × (walking.IsPossible (values_in c.claim.now) a i b →
    walking.IsStartedBy (values_in c.claim.now) (stacks_in c.claim.now) (cert c) a i b)

-- the same, if the step enters the loop
abbrev pub IsStepEntering : WalkCase → (a b : ℕ) → Type 0
IsStepEntering c a b = b ≡ c.note.now.header → (cert c).body a ≡ false → IsStartedFrom c a b

-- what an edge from a has that enters the loop, where the first access is known
pub record IsEntering (c : WalkCase) (g : Graph) (a e : ℕ) : Type 0 where
  pub called : (f : ℕ) → g.callee e ≡ Some f → g.entry f ≢ c.note.now.header
  pub back : (f b : ℕ) → g.callee e ≡ Some f → g.target e ≡ Some b → (cert c).body a ≡ false → b ≢ c.note.now.header
  pub step : (b : ℕ) → g.callee e ≡ None → g.target e ≡ Some b → IsStepEntering c a b

-- of an edge to whose source a run may come
pub record IsLiveSo (c : WalkCase) (g : Graph) (a e : ℕ) : Type 0 where
  pub led : (b : ℕ) → g.target e ≡ Some b → IsLedSo (cert c) c.note.now.header (λ v. in_extent c.note.now v) a b
  pub called : (f : ℕ) → g.callee e ≡ Some f → IsCalledSo (cert c) c.note.now.header a (g.entry f)
  pub begins : ((cert c).start ≡ None) ⊎ IsEntering c g a e
  pub sound : (cert c).body a ≡ true → (i : Instr) × (instr_at (text_in c.claim.now) a ≡ Some i) × IsSound c g a i e

pub record IsEdgeWalked (c : WalkCase) (g : Graph) (e : ℕ) : Type 0 where
  pub quiet_along : (b : ℕ) → g.target e ≡ Some b → (cert c).quiet (g.source e) ≡ true → (cert c).quiet b ≡ true
  pub quiet_calls : (f : ℕ) → g.callee e ≡ Some f → (cert c).quiet (g.source e) ≡ true → (cert c).quiet (g.entry f) ≡ true
  pub live : (values_in c.claim.now).live (g.source e) ≡ true → IsLiveSo c g (g.source e) e

abbrev pub AreEdgesWalked : WalkCase → Type 0
AreEdgesWalked c = (e : ℕ) → e < length c.claim.now.graph.now.code.edges → IsEdgeWalked c (graph c.claim.now.graph.now) e

-- of the header
pub record IsHeaderSo (c : WalkCertificate) (h : ℕ) : Type 0 where
  pub first : c.body h ≡ true
  pub rows : (r : ℕ) → IsRegister r → walking.IsBegun c (in_register r) (c.row h r)
  pub words : (k : ℕ) → walking.IsBegun c (in_word k) (c.word h k)
  pub untouched : c.touched h ≡ false
  pub unheld : c.holder h ≡ None
  pub quiet : c.quiet h ≡ false

-- of the start of a run
abbrev pub IsEntrySo : WalkCase → Type 0
IsEntrySo c = (k : ℕ) × (slice_get c.claim.now.graph.now.code.nodes k ≡ Some c.claim.now.view.now.entry) ×
    ((cert c).body (address c.claim.now k) ≡ true → k ≡ c.header) × (k ≡ c.header → (cert c).start ≡ None)

-- ---- the ground

-- an instruction is a load of a kind to a register
abbrev pub IsLoadTo : Instr → LoadOp → (r : ℕ) → Type 0
IsLoadTo i op r = (rs1 : ℕ) × (offset : ℤ) × (i ≡ Load op r rs1 offset)

-- the address of an access by what a register holds is in the table's place
abbrev pub IsPlaced : WalkCase → (k register more : ℕ) → Type 0
IsPlaced c k register more = Covers c.table.now.place (sum_with (held ((values_in c.claim.now).at (at_of c k)) register) more)

-- one of the intervals holds another one
abbrev pub IsHeldBy : List Arc → (i : Option Arc) → Type 0
IsHeldBy intervals i = (j : ℕ) × (y : Arc) × (slice_get intervals j ≡ Some y) × Covers (Some y) i

-- an area has nothing in common with the place, or one of the intervals of the ground holds what it has
abbrev pub IsGrounded : WalkTable → Arc → Type 0
IsGrounded t area = AreDisjoint t.place area ⊎ IsHeldBy t.ground.items (meet_of t.place (Some area))

-- an interval of the ground is short enough for the width
abbrev pub IsShort : WalkTable → Arc → Type 0
IsShort t x = (x.more + t.least ≤ t.width) × (x.more + (t.least + t.spread) < 2 ^ 32)

-- an interval, of number k, is that of number j, or that one is beyond it
abbrev pub IsApartAt : WalkTable → (k : ℕ) → Arc → (j : ℕ) → Type 0
IsApartAt t k x j = (y : Arc) → slice_get t.ground.items j ≡ Some y → (k ≡ j) ⊎ IsBeyond x y (t.least + t.spread)

-- the same of each other one
abbrev pub IsApart : WalkTable → (k : ℕ) → Type 0
IsApart t k = (x : Arc) → slice_get t.ground.items k ≡ Some x → (j : ℕ) → j < length t.ground.items → IsApartAt t k x j

-- the interval of a number has an address
abbrev pub IsInNumbered : List Arc → (k at : ℕ) → Type 0
IsInNumbered intervals k at = (y : Arc) × (slice_get intervals k ≡ Some y) × IsIn y at

-- what is looked for over fixed bytes
abbrev pub IsIdle : List FixedPart → Sought → ℕ → Type 0
IsIdle parts s at = walking.IsBarren (fixed_in parts) (Some (sought_view s)) at

-- an address is barren, or in one of the intervals
abbrev pub IsBegunAt : List FixedPart → Sought → List Arc → ℕ → Type 0
IsBegunAt parts s intervals at = IsIdle parts s at ⊎ ((j : ℕ) × (y : Arc) × (slice_get intervals j ≡ Some y) × IsIn y at)

-- each step of the walk from an interval stays in it, or leads to an address that is barren
abbrev pub IsEnding : List FixedPart → Sought → (least : ℕ) → Arc → Type 0
IsEnding parts s least x = (was now : ℕ) → IsIn x was → now ≡ (was + least) % 2 ^ 32 → now < 2 ^ 32 → IsIdle parts s now ⊎ IsIn x now

-- the intervals of a table for what is sought, which moves up by the same at each turn
pub record IsSearched (parts : List FixedPart) (t : WalkTable) : Type 0 where
  pub sought : Sought
  pub sought_is : t.sought ≡ Some sought
  pub up : t.down ≡ false
  pub exact : t.spread ≡ 0
  pub begins : (at : ℕ) → IsHeld t.start at → IsHeld t.place at → IsBegunAt parts sought t.ground.items at
  pub ends : All (λ (x : Arc). IsEnding parts sought t.least x) t.ground.items
