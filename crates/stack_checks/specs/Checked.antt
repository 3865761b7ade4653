-- Scaffold: what the code confirms of stacks: register by register, word by word, line by line and edge by edge.
use Rattle.std.specs.Prelude.{◌≡◌, ℕ, ℤ, ◌+◌, ◌*◌, ◌%◌, ◌^◌, ◌<◌, ◌≤◌, ◌⊎◌, true, false, List, length, slice_get, slice_index, is_some, Option, Some, None}
use Rattle.std.specs.List.{All}
use Rattle.scale_base.specs.declared.instruction.ImmOp.TheVariants.{Addi}
use Rattle.scale_base.specs.declared.instruction.RegOp.TheVariants.{Add}
use Rattle.scale_base.specs.declared.instruction.Instr.TheVariants.{Imm, Reg}
use Rattle.scale_base.specs.declared.instruction.Instr.{Instr}
use Rattle.scale_base.specs.Arith.{unsigned, load_width, loaded}
use Rattle.scale_base.specs.Elf.{has}
use Rattle.scale_base.specs.Image.{Image, LoadSegment, addresses_of, loaded_byte, stack, PF_W}
use Rattle.scale_base.specs.Run.{STACK_POINTER}
use Rattle.scale_base.specs.declared.ranges.Span.{Span}
use Rattle.scale_base.specs.Spans.{in_span}
use Rattle.cost_theory.specs.Graph.{Graph}
use Rattle.code_text.specs.Text.{Text, instr_at}
use Rattle.bound_laws.specs.Registers.{Measure, keeps, measured}
use Rattle.bound_laws.specs.Laws.{starting_registers}
use Rattle.bound_laws.specs.Values.{Arc, Values, AreIn, Covers, IsCovered, IsHeld, IsIn, IsLineCovered, IsRegister, IsSolved, arc, held, least_of, line_of, meet_of, opposite_of, passed, sum_with}
use Rattle.stack_laws.specs.Making.{IsLineMade, IsSide, IsSubtracted, IsSumBy}
use Rattle.stack_laws.specs.Stacks.Name.{of_begin}
use Rattle.stack_laws.specs.Stacks.{Stacks, name_span, IsBeginning, IsCoveredOver, IsLoadedTo, IsMissed, IsNamedOver, IsSpannedOver, IsStoredFrom, IsWordCovered, IsWordNamed, IsWordSpanned, ArePassed, IsPassed, IsCellKept, IsDescending, IsRestored, IsSafe, IsSparing, IsRegisterBack, IsNameBack, IsSpanBack, IsSumBack, IsWordBack, IsWordNameBack, IsWordSpanBack, AreEntered, AreBack, IsReturned}
use Rattle.stack_laws.specs.Cells.{IsLoadedFrom}
use Rattle.stack_laws.specs.Fixed.{AreFixedIn, GivesFixed}
use Rattle.stack_laws.specs.Areas.{AreDisjoint, IsAccessedIn, IsSolvedTo}
use Rattle.stack_laws.specs.Telling as telling
use Rattle.stack_laws.specs.Digits as digits
use Rattle.wrapped_intervals.specs.Small.{IsKept}
use Rattle.stack_tables.specs.declared.tables.Cell.{Cell}
use Rattle.stack_tables.specs.declared.tables.FixedPart.{FixedPart}
use Rattle.stack_tables.specs.declared.tables.Told.{Told}
use Rattle.stack_tables.specs.declared.tables.Dwindling.{Dwindling}
use Rattle.stack_tables.specs.Tables.{IsStackClaim, address, cell_view, dwindling_view, has_address, stacks_in, text_in, told_view, values_in}
use Rattle.stack_checks.specs.declared.cells.Loading.{Loading}
use Rattle.stack_checks.specs.declared.solving.Based.{Based}
use Rattle.stack_checks.specs.declared.ways.Way.{Way}
use Rattle.stack_checks.specs.declared.origins.Origin.{Origin}
use Rattle.stack_checks.specs.declared.origins.Origin.TheVariants.{Left, Plus, Sum, Loaded, Other}
use Rattle.stack_checks.specs.declared.origins.Source.{Source}
use Rattle.stack_checks.specs.declared.origins.Source.TheVariants.{Missed, Stored, Unknown}

-- ---- ways

-- an instruction of a program with its tables, and the node to which it leads
pub record IsWay (x : Way) : Type 0 where
  pub claim : IsStackClaim x.claim.now
  pub from : x.from < length x.claim.now.graph.now.code.nodes
  pub to : x.to < length x.claim.now.graph.now.code.nodes
  pub instr : instr_at (text_in x.claim.now) (address x.claim.now x.from) ≡ Some x.instr

abbrev pub text_along : Way → Text
text_along x = text_in x.claim.now

abbrev pub values_along : Way → Values
values_along x = values_in x.claim.now

abbrev pub stacks_along : Way → Stacks
stacks_along x = stacks_in x.claim.now

-- the addresses of both ends
abbrev pub from : Way → ℕ
from x = address x.claim.now x.from

abbrev pub to : Way → ℕ
to x = address x.claim.now x.to

-- ---- over an edge that is no call

-- where what an instruction leaves in a register comes from: it is left, a number more than a register, the sum of two, or a word of the stack
abbrev pub IsOrigin : Stacks → ℕ → Instr → ℕ → Origin → Type 0
IsOrigin w a i r Left = keeps r i ≡ true
IsOrigin w a i r (Plus rs more) = (imm : ℤ) × (i ≡ Imm Addi r rs imm) × (unsigned imm ≡ more)
IsOrigin w a i r (Sum rs1 rs2) = i ≡ Reg Add r rs1 rs2
IsOrigin w a i r (Loaded k) = IsLoadedTo w a i k r
IsOrigin w a i r Other = Unit {0}

-- and what it leaves in a word: it is missed, or a register is stored there
abbrev pub IsSource : Values → Stacks → ℕ → Instr → ℕ → Source → Type 0
IsSource v w a i j Missed = IsMissed v w a i j
IsSource v w a i j (Stored r) = IsStoredFrom w a i j r
IsSource v w a i j Unknown = Unit {0}

-- the same of a way
abbrev pub IsOriginOf : Way → ℕ → Origin → Type 0
IsOriginOf x r o = IsOrigin (stacks_along x) (from x) x.instr r o

abbrev pub IsSourceOf : Way → ℕ → Source → Type 0
IsSourceOf x j s = IsSource (values_along x) (stacks_along x) (from x) x.instr j s

abbrev pub passed_along : Way → ℕ → Option Arc
passed_along x r = passed x.instr (from x) (to x) ((values_along x).at (from x)) r

abbrev pub IsCoveredAlong : Way → ℕ → Type 0
IsCoveredAlong x r = IsCovered (values_along x) x.instr (from x) (to x) r

abbrev pub IsSolvedAlong : Way → ℕ → Type 0
IsSolvedAlong x r = IsSolved (values_along x) x.instr (from x) (to x) r

-- a line by what the instruction makes it of: one of the two forms of line k, and a sum before the instruction by a line but for a number
abbrev pub IsSideOf : Way → Measure → ℕ → Type 0
IsSideOf x m k = IsSide m ((values_along x).forms k)

abbrev pub IsSumAlong : Way → Option Arc → Measure → Type 0
IsSumAlong x interval n = IsSumBy (values_along x) (from x) n interval

abbrev pub IsLineFrom : Way → ℕ → Measure → Type 0
IsLineFrom x j n = Covers ((values_along x).lines (to x) j) (line_of n ((values_along x).at (from x))) ⊎
    IsSumAlong x ((values_along x).lines (to x) j) n

abbrev pub IsSubtractedAlong : Way → ℕ → Type 0
IsSubtractedAlong x r = IsSubtracted (values_along x) x.instr (from x) (to x) r

abbrev pub IsLineMadeAlong : Way → ℕ → Type 0
IsLineMadeAlong x j = IsLineMade (values_along x) x.instr (from x) (to x) j

pub record IsLineAlong (x : Way) (j : ℕ) : Type 0 where
  pub covered : IsLineCovered (values_along x) x.instr (from x) (to x) j ⊎ IsLineMadeAlong x j

-- a load of a cell whose numbers are all of an interval
pub record IsLoadOf (loading : Loading) (cell : Cell) : Type 0 where
  pub from : IsLoadedFrom loading.op loading.place (cell_view cell)
  pub covers : Covers loading.values (Some cell.values)

-- of one of these
pub record IsSomeLoaded (loading : Loading) (cells : List Cell) : Type 0 where
  pub number : ℕ
  pub cell : Cell
  pub cell_is : slice_get cells number ≡ Some cell
  pub load : IsLoadOf loading cell

-- ---- bytes that no store changes

-- a load at an address gives a number of the interval, whatever memory has elsewhere, or traps since it isn't aligned
abbrev pub GivesAt : (ℕ → Option ℕ) → Loading → ℕ → Type 0
GivesAt fixed x at = at % load_width x.op ≡ 0 → (bytes : ℕ → ℕ) → AreFixedIn fixed bytes → IsHeld x.values (loaded x.op bytes at)

-- the same at each address where it may be
pub record IsGiven (fixed : ℕ → Option ℕ) (x : Loading) : Type 0 where
  pub place : Arc
  pub place_is : x.place ≡ Some place
  pub gives : GivesFixed fixed x.op place x.values

-- no address of a part is one of a span's
abbrev pub IsApartFrom : Span → FixedPart → Type 0
IsApartFrom span p = (at : ℕ) → has_address at p ≡ true → in_span span at ≡ false

-- nor one of a segment's that may be written
abbrev pub IsUnwrittenIn : LoadSegment → FixedPart → Type 0
IsUnwrittenIn s p = has s.flags PF_W ≡ true → IsApartFrom (addresses_of s) p

-- the image loads the bytes of a part
abbrev pub HasBytes : Image → FixedPart → Type 0
HasBytes image p = (k : ℕ) → k < length p.bytes.items → loaded_byte image (p.from + k) ≡ slice_index p.bytes.items k

-- it does, where nothing may be written
pub record IsFixedPart (image : Image) (p : FixedPart) : Type 0 where
  pub below : IsApartFrom stack p
  pub unwritten : All (λ s. IsUnwrittenIn s p) image.segments
  pub bytes : HasBytes image p

-- ---- what is told

-- what is told before the instruction
abbrev pub told_before : Way → ℕ → Option telling.Told
told_before x = (stacks_along x).told (from x)

abbrev pub IsToldAlong : Way → Told → Type 0
IsToldAlong x y = telling.IsToldOver (values_along x) (told_before x) x.instr (from x) (to x) (told_view y)

abbrev pub IsComparedAlong : Way → Told → Type 0
IsComparedAlong x y = telling.IsCompared (values_along x) x.instr (from x) (told_view y)

abbrev pub IsHandedAlong : Way → Told → Told → Type 0
IsHandedAlong x z y = telling.IsHanded (values_along x) x.instr (from x) (told_view z) (told_view y)

-- the instruction makes y of z
pub record IsHandedOn (x : Way) (z y : Told) : Type 0 where
  pub handed : IsHandedAlong x z y
  pub carried : telling.IsCarried x.instr (told_view z) (told_view y)

-- of one of these
pub record IsSomeHanded (x : Way) (row : List Told) (y : Told) : Type 0 where
  pub number : ℕ
  pub found : Told
  pub found_is : slice_get row number ≡ Some found
  pub on : IsHandedOn x found y

-- z tells of the register on the way what its interval holds
pub record IsTellerOf (x : Way) (r : ℕ) (z : Told) : Type 0 where
  pub about : z.about ≡ r
  pub about_left : keeps r x.instr ≡ true
  pub teller_left : keeps z.teller x.instr ≡ true
  pub so : telling.AreSo z.zero (held (passed_along x) z.teller)
  pub covers : Covers ((values_along x).at (to x) r) (Some z.arc) ⊎
      Covers ((values_along x).at (to x) r) (meet_of (Some z.arc) (passed_along x r))

-- one of these does
pub record IsSomeTeller (x : Way) (row : List Told) (r : ℕ) : Type 0 where
  pub number : ℕ
  pub found : Told
  pub found_is : slice_get row number ≡ Some found
  pub of : IsTellerOf x r found

-- what is divided before the instruction
abbrev pub dwindling_before : Way → ℕ → Option digits.Dwindling
dwindling_before x = (stacks_along x).dwindling (from x)

abbrev pub IsDwindlingByAlong : Way → Dwindling → Type 0
IsDwindlingByAlong x y = digits.IsDwindlingBy (values_along x) (dwindling_before x) x.instr (from x) (to x) (dwindling_view y)

abbrev pub IsDwindlingAlong : Way → Dwindling → Type 0
IsDwindlingAlong x y = digits.IsDwindlingOver (values_along x) (dwindling_before x) x.instr (from x) (to x) (dwindling_view y)

abbrev pub IsLessAlong : Way → Dwindling → Dwindling → ℕ → Type 0
IsLessAlong x z y lost = digits.IsLess (values_along x) x.instr (from x) (dwindling_view z) (dwindling_view y) lost

abbrev pub IsCountedAlong : Way → Dwindling → Dwindling → ℕ → Type 0
IsCountedAlong x z y more = digits.IsCounted (values_along x) x.instr (from x) (dwindling_view z) (dwindling_view y) more

-- the instruction makes y of z
pub record IsDividedOn (x : Way) (z y : Dwindling) : Type 0 where
  pub lost : ℕ
  pub more : ℕ
  pub bits : z.bits ≡ y.bits
  pub less : IsLessAlong x z y lost
  pub counted : IsCountedAlong x z y more
  pub room : z.below + y.bits * more ≤ y.below + lost

-- of one of these
pub record IsSomeDivided (x : Way) (row : List Dwindling) (y : Dwindling) : Type 0 where
  pub number : ℕ
  pub found : Dwindling
  pub found_is : slice_get row number ≡ Some found
  pub on : IsDividedOn x found y

-- z's number is so great on the way that the register's interval holds all counts
pub record IsLimit (x : Way) (r : ℕ) (z : Dwindling) : Type 0 where
  pub bits : ℕ
  pub least : 2 ^ bits ≤ least_of (held (passed_along x) z.value)
  pub most : ℕ
  pub enough : z.below ≤ bits + z.bits * (most + 1)
  pub covers : Covers ((values_along x).at (to x) r) (Some (arc 0 most)) ⊎
      Covers ((values_along x).at (to x) r) (meet_of (Some (arc 0 most)) (passed_along x r))

-- z counts by the register, which is known and left, and its number is left too
pub record IsLimitOf (x : Way) (r : ℕ) (z : Dwindling) : Type 0 where
  pub count : z.count ≡ r
  pub count_left : keeps r x.instr ≡ true
  pub value_left : keeps z.value x.instr ≡ true
  pub known : is_some (held ((values_along x).at (from x)) r) ≡ true
  pub limit : IsLimit x r z

-- one of these does
pub record IsSomeLimit (x : Way) (row : List Dwindling) (r : ℕ) : Type 0 where
  pub number : ℕ
  pub found : Dwindling
  pub found_is : slice_get row number ≡ Some found
  pub of : IsLimitOf x r found

-- what an interval and an area have in common is in another interval
abbrev pub IsCutOf : Option Arc → Arc → Arc → Type 0
IsCutOf i to area = AreDisjoint i area ⊎ Covers (Some to) (meet_of i (Some area))

abbrev pub AreCutTo : List Arc → Option Arc → Arc → Type 0
AreCutTo areas i to = All (IsCutOf i to) areas

abbrev pub IsAccessedAlong : Way → ℕ → ℕ → Arc → Type 0
IsAccessedAlong x r more place = IsAccessedIn (values_along x) (stacks_along x).areas x.instr (from x) r more place

-- the register through which the instruction accesses memory, and what it is by where that may be
pub record IsBased (x : Way) (b : Based) : Type 0 where
  pub accessed : IsAccessedAlong x b.register b.more b.place
  pub held : sum_with (Some b.place) (opposite_of b.more) ≡ Some b.held
  pub kept : IsKept b.held

-- a line of the register and of that one says what the register's interval holds
pub record IsSolvedOn (x : Way) (r : ℕ) (b : Based) : Type 0 where
  pub number : ℕ
  pub form : Measure
  pub is_side : IsSideOf x form number
  pub register : form.register ≡ r
  pub other : form.other ≡ b.register
  pub solution : Option Arc
  pub solves : IsSolvedTo form ((values_along x).lines (from x) number) (Some b.held) solution
  pub covers : Covers ((values_along x).at (to x) r) solution ⊎ Covers ((values_along x).at (to x) r) (meet_of solution (passed_along x r))

abbrev pub IsNamedAlong : Way → ℕ → Type 0
IsNamedAlong x r = IsNamedOver (values_along x) (stacks_along x) x.instr (from x) (to x) r

abbrev pub IsSpannedAlong : Way → ℕ → Type 0
IsSpannedAlong x r = IsSpannedOver (values_along x) (stacks_along x) x.instr (from x) (to x) r

abbrev pub IsWordAlong : Way → ℕ → Type 0
IsWordAlong x j = IsWordCovered (values_along x) (stacks_along x) x.instr (from x) (to x) j

abbrev pub IsWordNamedAlong : Way → ℕ → Type 0
IsWordNamedAlong x j = IsWordNamed (values_along x) (stacks_along x) x.instr (from x) (to x) j

abbrev pub IsWordSpannedAlong : Way → ℕ → Type 0
IsWordSpannedAlong x j = IsWordSpanned (values_along x) (stacks_along x) x.instr (from x) (to x) j

pub record IsRegisterPassed (x : Way) (r : ℕ) : Type 0 where
  pub covered : IsCoveredOver (values_along x) (stacks_along x) x.instr (from x) (to x) r
  pub named : IsNamedAlong x r
  pub spanned : IsSpannedAlong x r

pub record IsWordPassed (x : Way) (j : ℕ) : Type 0 where
  pub covered : IsWordAlong x j
  pub named : IsWordNamedAlong x j
  pub spanned : IsWordSpannedAlong x j

-- ---- where a function begins

pub record IsRegisterBegun (w : Stacks) (a r : ℕ) : Type 0 where
  pub name : (w.name a r ≡ None) ⊎ (w.name a r ≡ Some (of_begin r 0))
  pub span : Covers (w.span a r) (name_span (w.name a r))

-- ---- behind a call of the function that begins at a node, by its number

abbrev pub IsGivenBack : Way → ℕ → ℕ → Type 0
IsGivenBack x h r = IsRestored (text_along x) (values_along x) (stacks_along x) (from x) (address x.claim.now h) r

abbrev pub IsKeptSafe : Way → ℕ → ℕ → Type 0
IsKeptSafe x h j = IsSafe (values_along x) (stacks_along x) (from x) (address x.claim.now h) j

pub record IsRegisterBehind (x : Way) (h r : ℕ) : Type 0 where
  pub back : IsRegisterBack (text_along x) (values_along x) (stacks_along x) (from x) (address x.claim.now h) (to x) r
  pub name : IsNameBack (text_along x) (values_along x) (stacks_along x) (from x) (address x.claim.now h) (to x) r
  pub span : IsSpanBack (text_along x) (values_along x) (stacks_along x) (from x) (address x.claim.now h) (to x) r

pub record IsWordBehind (x : Way) (h j : ℕ) : Type 0 where
  pub back : IsWordBack (values_along x) (stacks_along x) (from x) (address x.claim.now h) (to x) j
  pub name : IsWordNameBack (values_along x) (stacks_along x) (from x) (address x.claim.now h) (to x) j
  pub span : IsWordSpanBack (values_along x) (stacks_along x) (from x) (address x.claim.now h) (to x) j

pub record IsLineBehind (x : Way) (h j : ℕ) : Type 0 where
  pub back : IsSumBack (text_along x) (values_along x) (stacks_along x) (from x) (address x.claim.now h) (to x) j

-- ---- at the start of a run

abbrev pub IsLineStarted : Values → ℕ → ℕ → Type 0
IsLineStarted v a j = IsHeld (v.lines a j) (measured (v.forms j) starting_registers)

-- each address of a span is in one of the areas
abbrev pub IsInSome : List Arc → ℕ → Type 0
IsInSome areas at = (k : ℕ) × (x : Arc) × (slice_get areas k ≡ Some x) × IsIn x at

pub record IsSpanIn (areas : List Arc) (s : Span) : Type 0 where
  pub within : (at : ℕ) → in_span s at ≡ true → IsInSome areas at

-- ---- edges

abbrev pub ArePassedAlong : Way → Type 0
ArePassedAlong x = ArePassed (values_along x) (stacks_along x) x.instr (from x) (to x)

abbrev pub AreEnteredAlong : Way → Type 0
AreEnteredAlong x = AreEntered (values_along x) (stacks_along x) x.instr (from x) (to x)

abbrev pub AreBackAlong : Way → ℕ → Type 0
AreBackAlong x h = AreBack (text_along x) (values_along x) (stacks_along x) (from x) (address x.claim.now h) (to x)

-- what is to say of an edge from an address to which a run may come, and of the instruction there
pub record IsEdgeSound (t : Text) (g : Graph) (v : Values) (w : Stacks) (i : Instr) (a e : ℕ) : Type 0 where
  pub step : (b : ℕ) → g.target e ≡ Some b → g.callee e ≡ None → IsPassed v w i a b
  pub call : (f : ℕ) → g.callee e ≡ Some f → AreEntered v w i a (g.entry f)
  pub returns : (r : ℕ) → g.returns e ≡ true → IsRegister r → IsReturned t v w a r
  pub back : (f b : ℕ) → g.callee e ≡ Some f → g.target e ≡ Some b → AreBack t v w a (g.entry f) b
  pub spared_calls : (f k : ℕ) → g.callee e ≡ Some f → w.spared k a ≡ true → (w.spared k (g.entry f) ≡ true) × (more : ℕ) ×
      IsDescending v w a more
  pub spares : (k : ℕ) → w.spared k a ≡ true → IsSparing v w a i k
  pub cells : (c : ℕ) → IsCellKept v a i (w.cell c)

-- of any edge
pub record IsEdgeChecked (t : Text) (g : Graph) (v : Values) (w : Stacks) (e : ℕ) : Type 0 where
  pub along : (k b : ℕ) → g.target e ≡ Some b → w.spared k (g.source e) ≡ true → w.spared k b ≡ true
  pub sound : v.live (g.source e) ≡ true → (i : Instr) × (instr_at t (g.source e) ≡ Some i) × IsEdgeSound t g v w i (g.source e) e

-- the start of a run at an address
pub record IsStart (v : Values) (w : Stacks) (a : ℕ) : Type 0 where
  pub beginning : IsBeginning w a
  pub starts : AreIn v a starting_registers
  pub begins : IsHeld (w.begins (v.function a)) STACK_POINTER
