-- Walks: a loop each turn of which loads from, or stores to, the address where a pointer points, and moves the pointer on by less than any
-- two areas are apart. What an access goes to is in an area, or the run goes no further (RISC-V Unprivileged ISA, "Load and Store
-- Instructions": an access fault). So the pointer stays in one area, whatever it was at first, and the loop turns no more often than the
-- longest area has steps. Where the interval of the address is known, only what the areas have in common with it counts. The pointer is a
-- sum of multiples of two numbers, as a base and an index, each in a register or in a word of the stack. The code has to confirm edge by
-- edge how values depend on both. Induction variables: Aho, Lam, Sethi and Ullman, Compilers, section 9.1. Where a turn goes on only if the
-- number that it loads is one of an interval, as each but 0, an address from which a load of fixed bytes gives another number ends the walk:
-- then it counts where the pointer is when the loop is entered, and how far it is from there to such an address.
use Rattle.std.specs.Prelude.{◌≡◌, ◌≢◌, ℕ, ℤ, ◌+◌, ◌*◌, ◌/◌, ◌%◌, ◌^◌, ◌<◌, ◌≤◌, ◌⊎◌, ◌&&◌, nat_lt, Bool, true, false, Option, Some, None, if◌then◌else◌}
use Rattle.scale_base.specs.declared.instruction.LoadOp.{LoadOp}
use Rattle.scale_base.specs.declared.instruction.ImmOp.TheVariants.{Addi, Slli}
use Rattle.scale_base.specs.declared.instruction.RegOp.TheVariants.{Add}
use Rattle.scale_base.specs.declared.instruction.Instr.{Instr}
use Rattle.scale_base.specs.declared.instruction.Instr.TheVariants.{Load, Imm, Reg}
use Rattle.scale_base.specs.Arith.{unsigned, load_width}
use Rattle.scale_base.specs.Arith as ops
use Rattle.scale_base.specs.State.{reg}
use Rattle.cost_theory.specs.Graph.{Graph, Loops}
use Rattle.code_text.specs.Text.{Text, instr_at}
use Rattle.bound_laws.specs.Registers.{keeps}
use Rattle.bound_laws.specs.Turning.{Leads, Calls}
use Rattle.bound_laws.specs.Values.{Arc, IsIn, IsHeld, ahead, arc, strided, sum_of, sum_with, scaled, negated_of, held, Covers, meet_of, said, passed, IsImpossible, IsRegister, Values, Steps}
use Rattle.stack_laws.specs.Areas.{IsAccess, AreDisjoint}
use Rattle.stack_laws.specs.Fixed.{AreFixedIn}
use Rattle.stack_laws.specs.Stacks.{Stacks, View, IsLoadedTo, IsStoredFrom, IsMissed, IsRestored, IsSafe}

-- ---- values by two numbers

-- A value by the two numbers that stood in the two places when the header was last come to: so many times each of them, and a number of an
-- interval more, modulo 2^32.
pub record Trace : Type 0 where
  pub firsts : ℕ
  pub seconds : ℕ
  pub more : Option Arc

abbrev pub traced : ℕ → ℕ → Option Arc → Option Trace
traced firsts seconds more = Some (record { firsts = firsts; seconds = seconds; more = more })

-- nothing is known where there is no trace
abbrev pub IsTraced : Option Trace → (first second value : ℕ) → Type 0
IsTraced None first second value = Unit {0}
IsTraced (Some s) first second value =
    (d : ℕ) × IsHeld s.more d × (value % 2 ^ 32 ≡ (s.firsts * first + s.seconds * second + d) % 2 ^ 32)

-- this one says no more than the other
abbrev pub IsWider : Option Trace → Option Trace → Type 0
IsWider None other = Unit {0}
IsWider (Some s) None = ⊥
IsWider (Some s) (Some z) = (s.firsts ≡ z.firsts) × (s.seconds ≡ z.seconds) × Covers s.more z.more

-- the sum with a number
abbrev pub moved_by_number : Option Trace → ℕ → Option Trace
moved_by_number None n = None
moved_by_number (Some s) n = traced s.firsts s.seconds (sum_with s.more n)

-- the sum of both
abbrev pub sum_of_both : Option Trace → Option Trace → Option Trace
sum_of_both None z = None
sum_of_both (Some s) None = None
sum_of_both (Some s) (Some z) = traced (s.firsts + z.firsts) (s.seconds + z.seconds) (sum_of s.more z.more)

-- so many times the value
abbrev pub multiplied : Option Trace → ℕ → Option Trace
multiplied None n = None
multiplied (Some s) n = traced (n * s.firsts) (n * s.seconds) (scaled n s.more)

-- a value that depends on neither, by its interval
abbrev pub by_interval : Option Arc → Option Trace
by_interval None = None
by_interval (Some i) = traced 0 0 (Some i)

abbrev pub trace_or : Option Trace → Option Arc → Option Trace
trace_or None i = by_interval i
trace_or (Some s) i = Some s

-- ---- certificates

-- a register, or a word of the stack by its number
pub data Place : Type 0 where
  in_register : ℕ → Place
  in_word : ℕ → Place

abbrev pub number_in : Place → View → ℕ
number_in (in_register r) x = reg x.regs r
number_in (in_word k) x = x.words k

-- What is looked for: what loads of this kind give, as far as it is in the interval.
pub record Sought : Type 0 where
  pub op : LoadOp
  pub wanted : Arc

-- Why a loop can't turn often. The pointer is so many times what stands in the first place and so many times what stands in the second one.
pub record WalkCertificate : Type 0 where
  pub first : Place
  pub first_factor : ℕ
  pub second : Place
  pub second_factor : ℕ
  -- each turn accesses memory so far behind the pointer of the turn's start, modulo 2^32
  pub at : ℕ
  -- each turn moves the pointer up, or down, by so much at least, and by so much more at most
  pub down : Bool
  pub least : ℕ
  pub spread : ℕ
  pub width : ℕ
  -- the interval of the addresses that are accessed, where one is known, and that of those that the first turn accesses
  pub place : Option Arc
  pub start : Option Arc
  -- where something is sought: each access is a load of that kind, and the turn goes on only if it gives what is sought
  pub sought : Option Sought
  -- intervals of addresses, by number, that hold the addresses that are accessed while the turns go on
  pub ground : ℕ → Option Arc
  -- the code of the loop, with its header
  pub body : ℕ → Bool
  -- by address, before the instruction there, and by register, or by number of a word of the stack
  pub row : ℕ → ℕ → Option Trace
  pub word : ℕ → ℕ → Option Trace
  -- by address: memory was accessed there since the header was last come to, and gave what is sought
  pub touched : ℕ → Bool
  -- by address, before the instruction there: the register with what the load there gave since then
  pub holder : ℕ → Option ℕ
  -- the code that runs while a call from the body is open
  pub quiet : ℕ → Bool

-- only x1 to x31 have traces
abbrev pub row_of : WalkCertificate → ℕ → ℕ → Option Trace
row_of c a r = if nat_lt 0 r && nat_lt r 32 then c.row a r else None

-- what an instruction finds in a register
abbrev pub operand : Values → WalkCertificate → ℕ → ℕ → Option Trace
operand v c a r = trace_or (row_of c a r) (held (v.at a) r)

-- the address of the access
abbrev pub aim : WalkCertificate → Option Trace
aim c = traced c.first_factor c.second_factor (Some (strided c.at 0 0))

-- ---- over an edge of an instruction that is no call

-- a register's trace behind the instruction at a: none, the one it had, by a sum, by a shift, or by a word that is loaded
pub data IsRowOver (v : Values) (w : Stacks) (c : WalkCertificate) (a : ℕ) (i : Instr) (r : ℕ) (b : Option Trace) : Type 0 where
  untraced : b ≡ None → IsRowOver v w c a i r b
  kept : keeps r i ≡ true → IsWider b (c.row a r) → IsRowOver v w c a i r b
  summed : (rs : ℕ) (imm : ℤ) → i ≡ Imm Addi r rs imm → IsWider b (moved_by_number (operand v c a rs) (unsigned imm)) →
      IsRowOver v w c a i r b
  added : (rs1 rs2 : ℕ) → i ≡ Reg Add r rs1 rs2 → IsWider b (sum_of_both (operand v c a rs1) (operand v c a rs2)) → IsRowOver v w c a i r b
  shifted : (rs : ℕ) (imm : ℤ) → i ≡ Imm Slli r rs imm → IsWider b (multiplied (operand v c a rs) (2 ^ (unsigned imm % 32))) →
      IsRowOver v w c a i r b
  loaded : (k : ℕ) → IsLoadedTo w a i k r → IsWider b (c.word a k) → IsRowOver v w c a i r b

-- a word's trace: none, the one it had, or that of a register that is stored
pub data IsWordOver (v : Values) (w : Stacks) (c : WalkCertificate) (a : ℕ) (i : Instr) (k : ℕ) (b : Option Trace) : Type 0 where
  untraced : b ≡ None → IsWordOver v w c a i k b
  missed : IsMissed v w a i k → IsWider b (c.word a k) → IsWordOver v w c a i k b
  stored : (r : ℕ) → IsStoredFrom w a i k r → IsWider b (operand v c a r) → IsWordOver v w c a i k b

-- what is in a place behind it
abbrev pub IsPlaceOver : Values → Stacks → WalkCertificate → ℕ → Instr → Place → Option Trace → Type 0
IsPlaceOver v w c a i (in_register r) b = IsRegister r × IsRowOver v w c a i r b
IsPlaceOver v w c a i (in_word k) b = IsWordOver v w c a i k b

-- the instruction accesses memory where the pointer of the turn's start says
pub record IsAimed (v : Values) (c : WalkCertificate) (a : ℕ) (i : Instr) : Type 0 where
  pub register : ℕ
  pub more : ℕ
  pub access : IsAccess i register more
  pub aims : IsWider (aim c) (moved_by_number (operand v c a register) more)
  -- by the register's interval the address is in the place
  pub placed : Covers c.place (sum_with (held (v.at a) register) more)

-- it is a load of the kind of what is sought, to the register
pub record IsSearching (v : Values) (c : WalkCertificate) (a : ℕ) (i : Instr) (r : ℕ) : Type 0 where
  pub aimed : IsAimed v c a i
  pub register : IsRegister r
  pub sought : Sought
  pub sought_is : c.sought ≡ Some sought
  pub rs1 : ℕ
  pub offset : ℤ
  pub loads : i ≡ Load sought.op r rs1 offset

-- the register with what was loaded: none, the one that had it, or the one to which the instruction loads it
pub data IsHolderOver (v : Values) (c : WalkCertificate) (a : ℕ) (i : Instr) (b : Option ℕ) : Type 0 where
  unheld : b ≡ None → IsHolderOver v c a i b
  kept : (r : ℕ) → b ≡ Some r → c.holder a ≡ Some r → keeps r i ≡ true → IsHolderOver v c a i b
  searched : (r : ℕ) → b ≡ Some r → IsSearching v c a i r → IsHolderOver v c a i b

-- what was loaded is sought: the instruction at a leaves the register that has it, whose interval on the way to b says so
pub record IsFound (v : Values) (c : WalkCertificate) (a : ℕ) (i : Instr) (b : ℕ) : Type 0 where
  pub register : ℕ
  pub is_register : IsRegister register
  pub holder : c.holder a ≡ Some register
  pub left : keeps register i ≡ true
  pub sought : Sought
  pub sought_is : c.sought ≡ Some sought
  pub covers : Covers (Some sought.wanted) (passed i a b (v.at a) register)

-- On the way from the instruction at a to b: memory was accessed before it, or the instruction does it and nothing is sought, or what was
-- loaded shows to be sought.
abbrev pub IsTouched : Values → WalkCertificate → ℕ → Instr → ℕ → Type 0
IsTouched v c a i b = (c.touched a ≡ true) ⊎ ((c.sought ≡ None) × IsAimed v c a i) ⊎ IsFound v c a i b

-- ---- behind a call at a to a function

abbrev pub IsRowBack : Text → Values → Stacks → WalkCertificate → (a to r : ℕ) → Option Trace → Type 0
IsRowBack t v w c a to r b = (b ≡ None) ⊎ (IsRestored t v w a to r × IsWider b (c.row a r))

abbrev pub IsWordBack : Values → Stacks → WalkCertificate → (a to k : ℕ) → Option Trace → Type 0
IsWordBack v w c a to k b = (b ≡ None) ⊎ (IsSafe v w a to k × IsWider b (c.word a k))

abbrev pub IsPlaceBack : Text → Values → Stacks → WalkCertificate → (a to : ℕ) → Place → Option Trace → Type 0
IsPlaceBack t v w c a to (in_register r) b = IsRegister r × IsRowBack t v w c a to r b
IsPlaceBack t v w c a to (in_word k) b = IsWordBack v w c a to k b

abbrev pub IsHolderBack : Text → Values → Stacks → WalkCertificate → (a to : ℕ) → Option ℕ → Type 0
IsHolderBack t v w c a to b =
    (b ≡ None) ⊎ ((r : ℕ) × IsRegister r × (b ≡ Some r) × (c.holder a ≡ Some r) × IsRestored t v w a to r)

-- ---- a turn

-- the pointer, by what stands in both places
abbrev pub pointer : WalkCertificate → Option Trace → Option Trace → Option Trace
pointer c first second = sum_of_both (multiplied first c.first_factor) (multiplied second c.second_factor)

abbrev pub steps_of : Bool → Option Arc → Option Arc
steps_of down i = if down then negated_of i else i

-- it is a step behind the pointer of the turn's start, or before it
abbrev pub IsMoved : WalkCertificate → Option Trace → Type 0
IsMoved c None = ⊥
IsMoved c (Some s) = (s.firsts ≡ c.first_factor) × (s.seconds ≡ c.second_factor) ×
    Covers (Some (arc c.least c.spread)) (steps_of c.down s.more)

-- a turn that the instruction at a ends, which is no call, on the way to the header, and one that a call ends
pub record IsTurnOver (v : Values) (w : Stacks) (c : WalkCertificate) (a : ℕ) (i : Instr) (header : ℕ) : Type 0 where
  pub first : Option Trace
  pub second : Option Trace
  pub first_over : IsPlaceOver v w c a i c.first first
  pub second_over : IsPlaceOver v w c a i c.second second
  pub moved : IsMoved c (pointer c first second)
  pub touched : IsTouched v c a i header

pub record IsTurnBack (t : Text) (v : Values) (w : Stacks) (c : WalkCertificate) (a to : ℕ) : Type 0 where
  pub first : Option Trace
  pub second : Option Trace
  pub first_back : IsPlaceBack t v w c a to c.first first
  pub second_back : IsPlaceBack t v w c a to c.second second
  pub moved : IsMoved c (pointer c first second)
  pub touched : c.touched a ≡ true

-- ---- the ground

-- The second interval is behind the first one by more than the gap, and doesn't come round to it.
abbrev pub IsBeyond : Arc → Arc → (gap : ℕ) → Type 0
IsBeyond x y gap = (x.more + gap < ahead x.low y.low) × (ahead x.low y.low + y.more < 2 ^ 32)

-- The area has nothing in common with the place, or an interval of the ground holds what it has.
abbrev pub IsOnGround : (ground : ℕ → Option Arc) → (place : Option Arc) → (area : Arc) → Type 0
IsOnGround ground place area = AreDisjoint place area ⊎
    ((j : ℕ) × (y : Arc) × (ground j ≡ Some y) × Covers (Some y) (meet_of place (Some area)))

-- The ground holds what is in an area and in the place, and no step leads from one of its intervals to another one, or round to the same.
pub record IsOfAreas (areas : ℕ → Option Arc) (c : WalkCertificate) : Type 0 where
  pub holds : (k : ℕ) (x : Arc) → areas k ≡ Some x → IsOnGround c.ground c.place x
  pub apart : (k j : ℕ) (x y : Arc) → c.ground k ≡ Some x → c.ground j ≡ Some y → (k ≡ j) ⊎ IsBeyond x y (c.least + c.spread)

-- a step of the walk from one address to the other one, up or down
abbrev pub IsStep : Bool → (was step now : ℕ) → Type 0
IsStep true was step now = was ≡ (now + step) % 2 ^ 32
IsStep false was step now = now ≡ (was + step) % 2 ^ 32

-- A load at the address gives nothing that is sought, whatever memory has elsewhere than in fixed bytes. Where the address isn't a multiple of
-- its width it traps.
abbrev pub IsBarren : (fixed : ℕ → Option ℕ) → Option Sought → (at : ℕ) → Type 0
IsBarren fixed None at = ⊥
IsBarren fixed (Some s) at = at % load_width s.op ≡ 0 → (bytes : ℕ → ℕ) → AreFixedIn fixed bytes →
    IsIn s.wanted (ops.loaded s.op bytes at) → ⊥

-- The ground holds each address at which the first turn may access memory, but for those that are barren; and each step from one of its
-- intervals stays in it, or leads to an address that is barren.
pub record IsOfFixed (fixed : ℕ → Option ℕ) (c : WalkCertificate) : Type 0 where
  pub begins : (at : ℕ) → IsHeld c.start at → IsHeld c.place at →
      IsBarren fixed c.sought at ⊎ ((k : ℕ) × (x : Arc) × (c.ground k ≡ Some x) × IsIn x at)
  pub goes_on : (k : ℕ) (x : Arc) (was step now : ℕ) → c.ground k ≡ Some x → IsIn x was → IsStep c.down was step now → c.least ≤ step →
      step ≤ c.least + c.spread → now < 2 ^ 32 → IsHeld c.place now → IsBarren fixed c.sought now ⊎ IsIn x now

-- no interval of the ground is wider than the width
pub record IsGround (areas : ℕ → Option Arc) (fixed : ℕ → Option ℕ) (c : WalkCertificate) : Type 0 where
  pub short : (k : ℕ) (x : Arc) → c.ground k ≡ Some x → (x.more + c.least ≤ c.width) × (x.more + (c.least + c.spread) < 2 ^ 32)
  pub is : IsOfAreas areas c ⊎ IsOfFixed fixed c

-- ---- where the loop is entered

-- the interval of what is in a place behind the instruction at a, on the way to b
pub data IsArcOver (v : Values) (w : Stacks) (a : ℕ) (i : Instr) (b : ℕ) (p : Place) (arc : Option Arc) : Type 0 where
  register : (r : ℕ) → p ≡ in_register r → IsRegister r → arc ≡ passed i a b (v.at a) r → IsArcOver v w a i b p arc
  missed : (k : ℕ) → p ≡ in_word k → IsMissed v w a i k → arc ≡ w.word a k → IsArcOver v w a i b p arc
  stored : (k r : ℕ) → p ≡ in_word k → IsStoredFrom w a i k r → arc ≡ held (v.at a) r → IsArcOver v w a i b p arc

-- the interval of the address of the access, by those of what is in both places
abbrev pub aimed_in : WalkCertificate → Option Arc → Option Arc → Option Arc
aimed_in c first second = sum_with (sum_of (scaled c.first_factor first) (scaled c.second_factor second)) c.at

-- nothing is said of where the first turn accesses memory, or it is there by what is in the places
pub record IsStartedBy (v : Values) (w : Stacks) (c : WalkCertificate) (a : ℕ) (i : Instr) (b : ℕ) : Type 0 where
  pub first : Option Arc
  pub second : Option Arc
  pub first_over : IsArcOver v w a i b c.first first
  pub second_over : IsArcOver v w a i b c.second second
  pub covers : Covers c.start (aimed_in c first second)

abbrev pub IsStarted : Values → Stacks → WalkCertificate → ℕ → Instr → ℕ → Type 0
IsStarted v w c a i b = (c.start ≡ None) ⊎ IsStartedBy v w c a i b

-- ---- a certificate

-- no comparison says that no state comes this way
abbrev pub IsPossible : Values → ℕ → Instr → ℕ → Type 0
IsPossible v a i b = IsImpossible (said i a b) (v.at a) → ⊥

-- at the header a place holds its own number
abbrev pub IsBegun : WalkCertificate → Place → Option Trace → Type 0
IsBegun c p b = (b ≡ None) ⊎ ((c.first ≡ p) × IsWider b (traced 1 0 (Some (strided 0 0 0)))) ⊎
    ((c.second ≡ p) × IsWider b (traced 0 1 (Some (strided 0 0 0))))

-- What the code has to say of a certificate for the loop with this header and this extent. Each clause is about one edge of the graph, or
-- about two of one call.
pub record IsWalkCertificate (t : Text) (g : Graph) (v : Values) (w : Stacks) (header : ℕ) (extent : ℕ → Bool) (c : WalkCertificate)
    : Type 0 where
  pub ground : IsGround w.areas w.fixed c
  -- the header is in the body, and begins it: nothing is known there but of both places
  pub first : c.body header ≡ true
  pub rows : (r : ℕ) → IsRegister r → IsBegun c (in_register r) (c.row header r)
  pub words : (k : ℕ) → IsBegun c (in_word k) (c.word header k)
  pub untouched : c.touched header ≡ false
  pub unheld : c.holder header ≡ None
  -- the body is entered at its header alone, by edges, by calls and at the start of a run
  pub entered : (a b : ℕ) → Leads g a b → v.live a ≡ true → c.body b ≡ true → b ≢ header → c.body a ≡ true
  pub called : (a b : ℕ) → Calls g a b → v.live a ≡ true → c.body b ≡ true → b ≡ header
  pub entry : c.body t.entry ≡ true → t.entry ≡ header
  -- where the first turn accesses memory is known only of loops that are entered by edges of instructions that are no calls
  pub starts : (a : ℕ) (i : Instr) → Steps g a header → v.live a ≡ true → c.body a ≡ false → instr_at t a ≡ Some i →
      IsPossible v a i header → IsStarted v w c a i header
  pub starts_called : (a : ℕ) → Calls g a header → v.live a ≡ true → c.start ≡ None
  pub starts_back : (a to : ℕ) → Calls g a to → Leads g a header → v.live a ≡ true → c.body a ≡ false → c.start ≡ None
  pub starts_entry : t.entry ≡ header → c.start ≡ None
  -- what is counted as a turn comes from the body
  pub counts : (a : ℕ) → Leads g a header → v.live a ≡ true → extent a ≡ true → c.body a ≡ true
  -- within the body each instruction keeps the traces, where a state may come
  pub along : (a b r : ℕ) (i : Instr) → Steps g a b → v.live a ≡ true → c.body a ≡ true → c.body b ≡ true → b ≢ header →
      instr_at t a ≡ Some i → IsPossible v a i b → IsRegister r → IsRowOver v w c a i r (c.row b r)
  pub along_words : (a b k : ℕ) (i : Instr) → Steps g a b → v.live a ≡ true → c.body a ≡ true → c.body b ≡ true → b ≢ header →
      instr_at t a ≡ Some i → IsPossible v a i b → IsWordOver v w c a i k (c.word b k)
  pub along_touched : (a b : ℕ) (i : Instr) → Steps g a b → v.live a ≡ true → c.body a ≡ true → c.body b ≡ true → b ≢ header →
      instr_at t a ≡ Some i → IsPossible v a i b → c.touched b ≡ true → IsTouched v c a i b
  pub along_holder : (a b : ℕ) (i : Instr) → Steps g a b → v.live a ≡ true → c.body a ≡ true → c.body b ≡ true → b ≢ header →
      instr_at t a ≡ Some i → IsPossible v a i b → IsHolderOver v c a i (c.holder b)
  -- and so does each call
  pub back : (a to b r : ℕ) → Calls g a to → Leads g a b → v.live a ≡ true → c.body a ≡ true → c.body b ≡ true → b ≢ header →
      IsRegister r → IsRowBack t v w c a to r (c.row b r)
  pub back_words : (a to b k : ℕ) → Calls g a to → Leads g a b → v.live a ≡ true → c.body a ≡ true → c.body b ≡ true → b ≢ header →
      IsWordBack v w c a to k (c.word b k)
  pub back_touched : (a to b : ℕ) → Calls g a to → Leads g a b → v.live a ≡ true → c.body a ≡ true → c.body b ≡ true → b ≢ header →
      c.touched b ≡ true → c.touched a ≡ true
  pub back_holder : (a to b : ℕ) → Calls g a to → Leads g a b → v.live a ≡ true → c.body a ≡ true → c.body b ≡ true → b ≢ header →
      IsHolderBack t v w c a to (c.holder b)
  -- each turn accesses memory where the pointer says, and moves the pointer on
  pub turns : (a : ℕ) (i : Instr) → Steps g a header → v.live a ≡ true → c.body a ≡ true → instr_at t a ≡ Some i →
      IsPossible v a i header → IsTurnOver v w c a i header
  pub turns_back : (a to : ℕ) → Calls g a to → Leads g a header → v.live a ≡ true → c.body a ≡ true → IsTurnBack t v w c a to
  -- calls from the body go to quiet code
  pub calls : (a b : ℕ) → Calls g a b → v.live a ≡ true → c.body a ≡ true → c.quiet b ≡ true
  -- quiet code stays quiet along its edges and calls, and never comes to the header
  pub quiet_along : (a b : ℕ) → Leads g a b → c.quiet a ≡ true → c.quiet b ≡ true
  pub quiet_calls : (a b : ℕ) → Calls g a b → c.quiet a ≡ true → c.quiet b ≡ true
  pub quiet_apart : c.quiet header ≡ false

-- A bound of a loop that the code alone shows by a walk.
pub record IsWalkShown (t : Text) (g : Graph) (v : Values) (w : Stacks) (l : Loops) (k : ℕ) : Type 0 where
  pub certificate : WalkCertificate
  pub is : IsWalkCertificate t g v w (l.header k) (l.inside k) certificate
  pub positive : 0 < certificate.least
  pub enough : certificate.width / certificate.least ≤ l.bound k
