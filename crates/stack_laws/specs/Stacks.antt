-- Words of the stack, and registers that a function gives back as it found them: tables that no step leads out of, which the code has to
-- confirm edge by edge. Functions store registers below what x2 has when they begin, and load them from there before they return (RISC-V
-- ABIs Specification, Integer Calling Convention); nothing here rests on that convention.
use Rattle.std.specs.Prelude.{◌≡◌, ℕ, ℤ, ◌+◌, ◌%◌, ◌^◌, ◌<◌, ◌≤◌, ◌⊎◌, ◌==◌, ◌&&◌, nat_lt, min, Bool, true, List, Option, Some, None, is_some, if◌then◌else◌}
use Rattle.scale_base.specs.declared.instruction.LoadOp.{LoadOp}
use Rattle.scale_base.specs.declared.instruction.LoadOp.TheVariants.{Lw}
use Rattle.scale_base.specs.declared.instruction.StoreOp.TheVariants.{Sw}
use Rattle.scale_base.specs.declared.instruction.ImmOp.TheVariants.{Addi}
use Rattle.scale_base.specs.declared.instruction.RegOp.TheVariants.{Add}
use Rattle.scale_base.specs.declared.instruction.Instr.{Instr}
use Rattle.scale_base.specs.declared.instruction.Instr.TheVariants.{Load, Store, Imm, Reg, Ecall}
use Rattle.scale_base.specs.Arith.{plus, unsigned, store_width}
use Rattle.scale_base.specs.State.{reg, word_at}
use Rattle.cost_theory.specs.Graph.{Graph}
use Rattle.code_text.specs.Text.{Text, instr_at}
use Rattle.bound_laws.specs.Registers.{keeps}
use Rattle.bound_laws.specs.Turning.{Leads, Calls}
use Rattle.bound_laws.specs.Values.{Arc, IsIn, ahead, strided, word, exactly, top_of, sum_of, sum_with, opposite_of, held, IsHeld, Covers, said, passed, line_of, IsImpossible, keeps_at, IsRegister, Values, Steps, IsCovered, IsLineCovered, AreIn}
use Rattle.stack_laws.specs.Making.{IsLineMade, IsSubtracted}
use Rattle.stack_laws.specs.Cells.{Cell, IsCellHeld, IsBeside, IsStoredInto, IsLoadedFrom}
use Rattle.stack_laws.specs.Fixed.{AreFixedIn, GivesFixed}
use Rattle.stack_laws.specs.Areas.{IsAccessedIn, IsCoveredByAccess, IsSolvedByAccess}
use Rattle.stack_laws.specs.Telling.{Told, IsTelling, IsToldBehind, IsToldTo}
use Rattle.stack_laws.specs.Digits.{Dwindling, IsDwindling, IsDwindlingBehind, IsLimitedBy}

-- ---- where values come from

-- A value by its origin: so much more, modulo 2^32, than what a register had when the function began, or than what a word of the
-- function's stack holds.
pub data Name : Type 0 where
  of_begin : (register more : ℕ) → Name
  of_word : (number more : ℕ) → Name

pub record Stacks : Type 0 where
  -- by address and register, before the instruction there
  pub name : ℕ → ℕ → Option Name
  -- Words of the stack have numbers. How far each is above what x2 had when its function began, modulo 2^32.
  pub offset : ℕ → ℕ
  -- by address and number of a word, before the instruction there: its interval, and where its value comes from
  pub word : ℕ → ℕ → Option Arc
  pub word_name : ℕ → ℕ → Option Name
  -- Pointers into the function's stack: by address and register, and by address and number of a word, how far they are above what x2 had when
  -- the function began.
  pub span : ℕ → ℕ → Option Arc
  pub word_span : ℕ → ℕ → Option Arc
  -- by function, what x2 has when it begins
  pub begins : ℕ → Option Arc
  -- by function and register: at its returns the register is what it was when the function began
  pub restored : ℕ → ℕ → Bool
  -- by number, the addresses of the word while its function waits for a call to come back
  pub place : ℕ → Option Arc
  -- By number of a word and address: from here on up to the function's return nothing but what is doubtful is stored to the word of a function
  -- that waits, in what is called neither.
  pub spared : ℕ → ℕ → Bool
  -- by number, numbers in memory that are always in an interval
  pub cell : ℕ → Option Cell
  -- By address and a number, before the instruction there: what a register that is 0, or isn't, tells of another one. The numbers of different
  -- addresses have nothing to do with each other.
  pub told : ℕ → ℕ → Option Told
  -- By address and a number, as those: a register that is divided, and another one that counts how often.
  pub dwindling : ℕ → ℕ → Option Dwindling
  -- by number, intervals of addresses that hold all that may be loaded from or stored to
  pub areas : ℕ → Option Arc
  -- by address, the byte that is always there
  pub fixed : ℕ → Option ℕ
  -- by address, whether what the instruction stores is taken to miss all words that are kept
  pub doubtful : ℕ → Bool
  -- by function and number of a word of its stack: no doubtful instruction stores to it
  pub kept : ℕ → ℕ → Bool

-- What the code of a function sees: the registers, the words of its stack by number, the registers when it began, and memory.
pub record View : Type 0 where
  pub regs : List ℕ
  pub words : ℕ → ℕ
  pub begun : List ℕ
  pub bytes : ℕ → ℕ

abbrev pub word_address : Stacks → List ℕ → ℕ → ℕ
word_address w begun k = plus (reg begun 2) (w.offset k)

abbrev pub view_of : Stacks → List ℕ → List ℕ → (ℕ → ℕ) → View
view_of w begun regs bytes = record { regs = regs; words = λ k. word_at bytes (word_address w begun k); begun = begun; bytes = bytes }

-- what the name is about, and how much more the value is
abbrev pub origin : Name → View → ℕ
origin (of_begin r more) x = reg x.begun r
origin (of_word k more) x = x.words k

abbrev pub more_than : Name → ℕ
more_than (of_begin r more) = more
more_than (of_word k more) = more

-- The value is so much more than what is named, modulo 2^32, and a word where that is one. Nothing is known where there is no name.
abbrev pub IsNamed : Option Name → View → ℕ → Type 0
IsNamed None x value = Unit {0}
IsNamed (Some n) x value = (value % 2 ^ 32 ≡ plus (origin n x) (more_than n)) × (origin n x < 2 ^ 32 → value < 2 ^ 32)

-- only x1 to x31 have names
abbrev pub name_of : Stacks → ℕ → ℕ → Option Name
name_of w a r = if nat_lt 0 r && nat_lt r 32 then w.name a r else None

abbrev pub span_of : Stacks → ℕ → ℕ → Option Arc
span_of w a r = if nat_lt 0 r && nat_lt r 32 then w.span a r else None

-- the value is so far above what x2 had, by a number of the interval
abbrev pub IsSpanned : Option Arc → View → ℕ → Type 0
IsSpanned None x value = Unit {0}
IsSpanned (Some i) x value = (d : ℕ) × IsIn i d × (value % 2 ^ 32 ≡ plus (reg x.begun 2) d)

-- the name of a value that is greater by so much
abbrev pub more_of : Option Name → ℕ → Option Name
more_of None n = None
more_of (Some (of_begin r more)) n = Some (of_begin r (plus more n))
more_of (Some (of_word k more)) n = Some (of_word k (plus more n))

abbrev pub known_sum : Option Arc → ℕ → Option Arc
known_sum None n = None
known_sum (Some i) n = sum_with (Some i) n

-- the interval of a value by its name
abbrev pub name_arc : Values → Stacks → ℕ → Option Name → Option Arc
name_arc v w a None = None
name_arc v w a (Some (of_begin r more)) = if r == 2 then known_sum (w.begins (v.function a)) more else None
name_arc v w a (Some (of_word k more)) = sum_with (w.word a k) more

-- how far a value is above what x2 had, by its name
abbrev pub name_span : Option Name → Option Arc
name_span None = None
name_span (Some (of_begin r more)) = if r == 2 then exactly more else None
name_span (Some (of_word k more)) = None

abbrev pub known_sums : Option Arc → Option Arc → Option Arc
known_sums None j = None
known_sums (Some i) j = sum_of (Some i) j

-- ---- stores and loads

-- how far an address is above what x2 had when the function began, where the name of the register says it
abbrev pub offset_of : Option Name → ℕ → Option ℕ
offset_of None n = None
offset_of (Some (of_begin r more)) n = if r == 2 then Some (plus more n) else None
offset_of (Some (of_word k more)) n = None

abbrev pub stored_at : Stacks → ℕ → Instr → Option ℕ
stored_at w a (Store op rs1 rs2 offset) = offset_of (name_of w a rs1) (unsigned offset)
stored_at w a i = None

abbrev pub loaded_at : Stacks → ℕ → Instr → Option ℕ
loaded_at w a (Load op rd rs1 offset) = offset_of (name_of w a rs1) (unsigned offset)
loaded_at w a i = None

abbrev pub width_stored : Instr → ℕ
width_stored (Store op rs1 rs2 offset) = store_width op
width_stored i = 0

-- the register whose word is stored, and the one to which a word is loaded
abbrev pub word_stored : Instr → Option ℕ
word_stored (Store Sw rs1 rs2 offset) = Some rs2
word_stored i = None

abbrev pub word_loaded : Instr → Option ℕ
word_loaded (Load Lw rd rs1 offset) = Some rd
word_loaded i = None

abbrev pub IsStoredFrom : Stacks → ℕ → Instr → ℕ → ℕ → Type 0
IsStoredFrom w a i k r = (word_stored i ≡ Some r) × (stored_at w a i ≡ Some (w.offset k))

abbrev pub IsLoadedTo : Stacks → ℕ → Instr → ℕ → ℕ → Type 0
IsLoadedTo w a i k r = (word_loaded i ≡ Some r) × (loaded_at w a i ≡ Some (w.offset k))

-- none of so many bytes from an address on is one of the four from the other on, modulo 2^32
abbrev pub IsApart : ℕ → ℕ → ℕ → Type 0
IsApart at width other = (width ≤ ahead at other) × (4 ≤ ahead other at)

-- the same of all addresses of two intervals
abbrev pub AreApart : Option Arc → ℕ → Option Arc → Type 0
AreApart None width words = ⊥
AreApart (Some i) width None = ⊥
AreApart (Some i) width (Some j) = (i.more < ahead i.low j.low) × (width + i.more ≤ ahead i.low j.low) ×
    (ahead i.low j.low + j.more + 4 ≤ 2 ^ 32)

-- a number that is not in the interval
abbrev pub HasNot : Option Arc → ℕ → Type 0
HasNot None n = ⊥
HasNot (Some i) n = i.more < ahead i.low n

-- What the instruction at a stores misses the words at these addresses, by the intervals of registers. The read service, whose number is
-- 63, stores from x11 on at most 256 bytes and at most x12.
abbrev pub IsFar : Values → ℕ → Instr → Option Arc → Type 0
IsFar v a (Store op rs1 rs2 offset) words = AreApart (sum_with (held (v.at a) rs1) (unsigned offset)) (store_width op) words
IsFar v a Ecall words = HasNot (held (v.at a) 17) 63 ⊎ AreApart (held (v.at a) 11) (min 256 (top_of (held (v.at a) 12))) words
IsFar v a i words = Unit {0}

-- how far what it stores to is above what x2 had when the function began, and how many bytes it stores at most
abbrev pub stored_span : Values → Stacks → ℕ → Instr → Option Arc
stored_span v w a (Store op rs1 rs2 offset) = known_sum (span_of w a rs1) (unsigned offset)
stored_span v w a Ecall = if is_some (v.at a 11) then w.span a 11 else None
stored_span v w a i = None

abbrev pub most_stored : Values → ℕ → Instr → ℕ
most_stored v a Ecall = min 256 (top_of (held (v.at a) 12))
most_stored v a i = width_stored i

-- It misses a word of the function's own stack: by the intervals, by how far both are above what x2 had when the function began, or because
-- it is doubtful and the word is kept.
abbrev pub IsMissed : Values → Stacks → ℕ → Instr → ℕ → Type 0
IsMissed v w a i k =
    IsFar v a i (sum_with (w.begins (v.function a)) (w.offset k))
    ⊎ ((o : ℕ) × (stored_at w a i ≡ Some o) × IsApart o (width_stored i) (w.offset k))
    ⊎ AreApart (stored_span v w a i) (most_stored v a i) (Some (strided (w.offset k) 0 0))
    ⊎ ((w.doubtful a ≡ true) × (w.kept (v.function a) k ≡ true))

-- so many bytes fit between an address and what x2 had when the function began, which is above it, without wrapping
abbrev pub IsBelow : Option Arc → ℕ → ℕ → Type 0
IsBelow None o width = ⊥
IsBelow (Some i) o width = (i.low + i.more < 2 ^ 32) × (opposite_of o ≤ i.low) × (width ≤ opposite_of o)

-- the same of all numbers of an interval
abbrev pub AreBelow : Option Arc → Option Arc → ℕ → Type 0
AreBelow None span width = ⊥
AreBelow (Some i) None width = ⊥
AreBelow (Some i) (Some j) width = (i.low + i.more < 2 ^ 32) × (0 < j.low) × (j.low + j.more < 2 ^ 32) × (opposite_of j.low ≤ i.low) ×
    (width ≤ opposite_of (j.low + j.more))

-- it misses a word of what waits for the function, or is doubtful
abbrev pub IsSparing : Values → Stacks → ℕ → Instr → ℕ → Type 0
IsSparing v w a i k =
    IsFar v a i (w.place k)
    ⊎ ((o : ℕ) × (stored_at w a i ≡ Some o) × IsBelow (w.begins (v.function a)) o (width_stored i))
    ⊎ AreBelow (w.begins (v.function a)) (stored_span v w a i) (most_stored v a i)
    ⊎ (w.doubtful a ≡ true)

-- What the instruction at a stores misses the bytes of a cell, by the intervals of registers.
abbrev pub IsClear : Values → ℕ → Instr → Cell → Type 0
IsClear v a (Store op rs1 rs2 offset) c = IsBeside (sum_with (held (v.at a) rs1) (unsigned offset)) (store_width op) c
IsClear v a Ecall c = HasNot (held (v.at a) 17) 63 ⊎ IsBeside (held (v.at a) 11) (min 256 (top_of (held (v.at a) 12))) c
IsClear v a i c = Unit {0}

-- or it is a number of the cell's interval, which is stored there
abbrev pub IsPutInto : Values → ℕ → Instr → Cell → Type 0
IsPutInto v a (Store op rs1 rs2 offset) c =
    IsStoredInto (sum_with (held (v.at a) rs1) (unsigned offset)) (store_width op) (held (v.at a) rs2) c
IsPutInto v a i c = ⊥

abbrev pub IsCellKept : Values → ℕ → Instr → Option Cell → Type 0
IsCellKept v a i None = Unit {0}
IsCellKept v a i (Some c) = IsClear v a i c ⊎ IsPutInto v a i c

-- x2 is not above what it had when the function began
abbrev pub IsDescending : Values → Stacks → ℕ → ℕ → Type 0
IsDescending v w a more = (w.name a 2 ≡ Some (of_begin 2 more)) × IsBelow (w.begins (v.function a)) more 0

-- ---- over an edge of an instruction that is no call

-- what a name names is not stored to
abbrev pub IsSteady : Values → Stacks → ℕ → Instr → Option Name → Type 0
IsSteady v w a i None = Unit {0}
IsSteady v w a i (Some (of_begin r more)) = Unit {0}
IsSteady v w a i (Some (of_word k more)) = IsMissed v w a i k

-- a register's interval at b: that of a cell that is loaded
pub record IsCellLoaded (v : Values) (w : Stacks) (i : Instr) (a b r : ℕ) : Type 0 where
  pub number : ℕ
  pub cell : Cell
  pub cell_is : w.cell number ≡ Some cell
  pub op : LoadOp
  pub rs1 : ℕ
  pub offset : ℤ
  pub loads : i ≡ Load op r rs1 offset
  pub loaded : IsLoadedFrom op (sum_with (held (v.at a) rs1) (unsigned offset)) cell
  pub covers : Covers (v.at b r) (Some cell.values)

-- a register's interval at b: what a load of fixed bytes gives, from wherever in an interval its address is
pub record IsFixedLoaded (v : Values) (w : Stacks) (i : Instr) (a b r : ℕ) : Type 0 where
  pub op : LoadOp
  pub rs1 : ℕ
  pub offset : ℤ
  pub loads : i ≡ Load op r rs1 offset
  pub place : Arc
  pub place_is : sum_with (held (v.at a) rs1) (unsigned offset) ≡ Some place
  pub covers : GivesFixed w.fixed op place (v.at b r)

-- a register's interval at b: as in an invariant of intervals, by its name, by a line of the difference that the instruction writes, by a
-- cell that it loads, by what another register tells, by where an access through it may be, by how often a number is divided that it counts, by
-- a line of it and of a register through which an access goes, or by fixed bytes that it loads
abbrev pub IsCoveredOver : Values → Stacks → Instr → ℕ → ℕ → ℕ → Type 0
IsCoveredOver v w i a b r =
    IsCovered v i a b r ⊎ Covers (v.at b r) (name_arc v w b (w.name b r)) ⊎ IsSubtracted v i a b r ⊎ IsCellLoaded v w i a b r
    ⊎ IsToldTo v (w.told a) i a b r ⊎ IsCoveredByAccess v w.areas i a b r ⊎ IsLimitedBy v (w.dwindling a) i a b r
    ⊎ IsSolvedByAccess v w.areas i a b r ⊎ IsFixedLoaded v w i a b r

-- the register holds this number alone
abbrev pub IsExactly : Values → ℕ → ℕ → Arc → Type 0
IsExactly v a r c = (held (v.at a) r ≡ Some c) × (c.more ≡ 0)

-- a register's name at b: none, the one it had, by a sum with a number, by a word that is loaded or stored
pub data IsNamedOver (v : Values) (w : Stacks) (i : Instr) (a b r : ℕ) : Type 0 where
  unnamed : w.name b r ≡ None → IsNamedOver v w i a b r
  kept : keeps r i ≡ true → w.name b r ≡ w.name a r → IsSteady v w a i (w.name a r) → IsNamedOver v w i a b r
  summed : (rs : ℕ) (imm : ℤ) → i ≡ Imm Addi r rs imm → w.name b r ≡ more_of (name_of w a rs) (unsigned imm) → IsNamedOver v w i a b r
  added : (rs1 rs2 : ℕ) (c : Arc) → i ≡ Reg Add r rs1 rs2 → IsExactly v a rs2 c → w.name b r ≡ more_of (name_of w a rs1) c.low →
      IsNamedOver v w i a b r
  added_to : (rs1 rs2 : ℕ) (c : Arc) → i ≡ Reg Add r rs1 rs2 → IsExactly v a rs1 c → w.name b r ≡ more_of (name_of w a rs2) c.low →
      IsNamedOver v w i a b r
  loaded : (k : ℕ) → IsLoadedTo w a i k r → w.name b r ≡ Some (of_word k 0) → IsNamedOver v w i a b r
  loaded_as : (k : ℕ) → IsLoadedTo w a i k r → w.name b r ≡ w.word_name a k → IsNamedOver v w i a b r
  stored : (k : ℕ) → IsStoredFrom w a i k r → is_some (v.at a r) ≡ true → w.name b r ≡ Some (of_word k 0) → IsNamedOver v w i a b r

-- a word's interval at b: any word, the one it had, that of a register that is stored, what a branch says of a register that has its value, or
-- where an access through a register that is so much more than the word may be
pub data IsWordCovered (v : Values) (w : Stacks) (i : Instr) (a b k : ℕ) : Type 0 where
  any : Covers (w.word b k) word → IsWordCovered v w i a b k
  kept : IsMissed v w a i k → Covers (w.word b k) (w.word a k) → IsWordCovered v w i a b k
  stored : (r : ℕ) → IsStoredFrom w a i k r → Covers (w.word b k) (held (v.at a) r) → IsWordCovered v w i a b k
  tied : (r more : ℕ) → IsRegister r → keeps r i ≡ true → w.name a r ≡ Some (of_word k more) → IsMissed v w a i k →
      Covers (w.word b k) (sum_with (passed i a b (v.at a) r) (opposite_of more)) → IsWordCovered v w i a b k
  accessed : (r more further : ℕ) (place : Arc) → IsRegister r → w.name a r ≡ Some (of_word k more) → IsMissed v w a i k →
      IsAccessedIn v w.areas i a r further place → Covers (w.word b k) (sum_with (Some place) (opposite_of (plus further more))) →
      IsWordCovered v w i a b k

-- a word's name at b: none, the one it had, or that of a register that is stored
pub data IsWordNamed (v : Values) (w : Stacks) (i : Instr) (a b k : ℕ) : Type 0 where
  unnamed : w.word_name b k ≡ None → IsWordNamed v w i a b k
  kept : w.word_name b k ≡ w.word_name a k → IsMissed v w a i k → IsSteady v w a i (w.word_name a k) → IsWordNamed v w i a b k
  stored : (r : ℕ) → IsStoredFrom w a i k r → w.word_name b k ≡ name_of w a r → IsSteady v w a i (name_of w a r) → IsWordNamed v w i a b k

-- the register's interval at b, less what x2 had when the function began, where that is one number
pub record IsSpannedByInterval (v : Values) (w : Stacks) (b r : ℕ) : Type 0 where
  pub begun : Arc
  pub begun_is : w.begins (v.function b) ≡ Some begun
  pub one : begun.more ≡ 0
  pub covers : Covers (w.span b r) (sum_with (v.at b r) (opposite_of begun.low))

-- a register's span at b: the one it had, by its name, by a sum, by a word that is loaded, or by its interval
pub data IsSpannedOver (v : Values) (w : Stacks) (i : Instr) (a b r : ℕ) : Type 0 where
  unspanned : w.span b r ≡ None → IsSpannedOver v w i a b r
  kept : keeps r i ≡ true → Covers (w.span b r) (w.span a r) → IsSpannedOver v w i a b r
  by_name : Covers (w.span b r) (name_span (w.name b r)) → IsSpannedOver v w i a b r
  summed : (rs : ℕ) (imm : ℤ) → i ≡ Imm Addi r rs imm → Covers (w.span b r) (known_sum (span_of w a rs) (unsigned imm)) →
      IsSpannedOver v w i a b r
  added : (rs1 rs2 : ℕ) → i ≡ Reg Add r rs1 rs2 → Covers (w.span b r) (known_sums (span_of w a rs1) (held (v.at a) rs2)) →
      IsSpannedOver v w i a b r
  added_to : (rs1 rs2 : ℕ) → i ≡ Reg Add r rs1 rs2 → Covers (w.span b r) (known_sums (span_of w a rs2) (held (v.at a) rs1)) →
      IsSpannedOver v w i a b r
  loaded : (k : ℕ) → IsLoadedTo w a i k r → Covers (w.span b r) (w.word_span a k) → IsSpannedOver v w i a b r
  by_interval : IsSpannedByInterval v w b r → IsSpannedOver v w i a b r

-- a word's span at b: the one it had, by its name, or that of a register that is stored
pub data IsWordSpanned (v : Values) (w : Stacks) (i : Instr) (a b k : ℕ) : Type 0 where
  unspanned : w.word_span b k ≡ None → IsWordSpanned v w i a b k
  kept : IsMissed v w a i k → Covers (w.word_span b k) (w.word_span a k) → IsWordSpanned v w i a b k
  by_name : Covers (w.word_span b k) (name_span (w.word_name b k)) → IsWordSpanned v w i a b k
  stored : (r : ℕ) → IsStoredFrom w a i k r → Covers (w.word_span b k) (span_of w a r) → IsWordSpanned v w i a b k

pub record ArePassed (v : Values) (w : Stacks) (i : Instr) (a b : ℕ) : Type 0 where
  pub live : v.live b ≡ true
  pub registers : (r : ℕ) → IsRegister r → IsCoveredOver v w i a b r
  pub lines : (j : ℕ) → IsLineCovered v i a b j ⊎ IsLineMade v i a b j
  pub names : (r : ℕ) → IsRegister r → IsNamedOver v w i a b r
  pub words : (k : ℕ) → IsWordCovered v w i a b k
  pub word_names : (k : ℕ) → IsWordNamed v w i a b k
  pub spans : (r : ℕ) → IsRegister r → IsSpannedOver v w i a b r
  pub word_spans : (k : ℕ) → IsWordSpanned v w i a b k
  pub told : (j : ℕ) → IsToldBehind v (w.told a) i a b (w.told b j)
  pub dwindling : (j : ℕ) → IsDwindlingBehind v (w.dwindling a) i a b (w.dwindling b j)

-- all are, or no state comes this way
abbrev pub IsPassed : Values → Stacks → Instr → ℕ → ℕ → Type 0
IsPassed v w i a b = IsImpossible (said i a b) (v.at a) ⊎ ArePassed v w i a b

-- ---- into a function

-- where a function begins, each register is what it was then, nothing is known of the words of its stack, and no register tells of others or
-- counts what is divided
pub record IsBeginning (w : Stacks) (a : ℕ) : Type 0 where
  pub names : (r : ℕ) → IsRegister r → (w.name a r ≡ None) ⊎ (w.name a r ≡ Some (of_begin r 0))
  pub words : (k : ℕ) → w.word a k ≡ None
  pub word_names : (k : ℕ) → w.word_name a k ≡ None
  pub spans : (r : ℕ) → IsRegister r → Covers (w.span a r) (name_span (w.name a r))
  pub word_spans : (k : ℕ) → w.word_span a k ≡ None
  pub told : (j : ℕ) → w.told a j ≡ None
  pub dwindling : (j : ℕ) → w.dwindling a j ≡ None

pub record AreEntered (v : Values) (w : Stacks) (i : Instr) (a b : ℕ) : Type 0 where
  pub live : v.live b ≡ true
  pub registers : (r : ℕ) → IsRegister r → IsCovered v i a b r
  pub lines : (j : ℕ) → IsLineCovered v i a b j ⊎ IsLineMade v i a b j
  pub beginning : IsBeginning w b
  pub stack : keeps 2 i ≡ true
  -- the call stores nothing
  pub quiet : IsFar v a i None
  pub begins : Covers (w.begins (v.function b)) (v.at a 2)

-- ---- behind a call

abbrev pub IsRestored : Text → Values → Stacks → ℕ → ℕ → ℕ → Type 0
IsRestored t v w u to r = (w.restored (v.function to) r ≡ true) × (keeps_at t r u ≡ true)

-- A word of the stack of the function that calls is as it was: nothing is stored to it, and it is not below x2 at the call.
pub record IsSafe (v : Values) (w : Stacks) (u to k : ℕ) : Type 0 where
  pub kept : w.kept (v.function u) k ≡ true
  pub spared : w.spared k to ≡ true
  pub place : Covers (w.place k) (sum_with (w.begins (v.function u)) (w.offset k))
  pub more : ℕ
  pub descending : IsDescending v w u more
  pub above : opposite_of (w.offset k) ≤ opposite_of more

abbrev pub IsNameSafe : Values → Stacks → ℕ → ℕ → Option Name → Type 0
IsNameSafe v w u to None = Unit {0}
IsNameSafe v w u to (Some (of_begin r more)) = Unit {0}
IsNameSafe v w u to (Some (of_word k more)) = IsSafe v w u to k

-- a register has what it had before the call, where the function restores it, or what it has at the function's returns
pub data IsRegisterBack (t : Text) (v : Values) (w : Stacks) (u to b r : ℕ) : Type 0 where
  restored : IsRestored t v w u to r → Covers (v.at b r) (v.at u r) → IsRegisterBack t v w u to b r
  exits : Covers (v.at b r) (v.exit (v.function to) r) → IsRegisterBack t v w u to b r
  by_name : Covers (v.at b r) (name_arc v w b (w.name b r)) → IsRegisterBack t v w u to b r

pub data IsSumBack (t : Text) (v : Values) (w : Stacks) (u to b j : ℕ) : Type 0 where
  restored : IsRestored t v w u to (v.forms j).register → IsRestored t v w u to (v.forms j).other → Covers (v.lines b j) (v.lines u j) →
      IsSumBack t v w u to b j
  anew : Covers (v.lines b j) (line_of (v.forms j) (v.at b)) → IsSumBack t v w u to b j

pub data IsNameBack (t : Text) (v : Values) (w : Stacks) (u to b r : ℕ) : Type 0 where
  unnamed : w.name b r ≡ None → IsNameBack t v w u to b r
  restored : IsRestored t v w u to r → w.name b r ≡ w.name u r → IsNameSafe v w u to (w.name u r) → IsNameBack t v w u to b r

pub data IsWordBack (v : Values) (w : Stacks) (u to b k : ℕ) : Type 0 where
  any : Covers (w.word b k) word → IsWordBack v w u to b k
  kept : IsSafe v w u to k → Covers (w.word b k) (w.word u k) → IsWordBack v w u to b k

pub data IsWordNameBack (v : Values) (w : Stacks) (u to b k : ℕ) : Type 0 where
  unnamed : w.word_name b k ≡ None → IsWordNameBack v w u to b k
  kept : IsSafe v w u to k → w.word_name b k ≡ w.word_name u k → IsNameSafe v w u to (w.word_name u k) → IsWordNameBack v w u to b k

pub data IsSpanBack (t : Text) (v : Values) (w : Stacks) (u to b r : ℕ) : Type 0 where
  by_name : Covers (w.span b r) (name_span (w.name b r)) → IsSpanBack t v w u to b r
  restored : IsRestored t v w u to r → Covers (w.span b r) (w.span u r) → IsSpanBack t v w u to b r

pub data IsWordSpanBack (v : Values) (w : Stacks) (u to b k : ℕ) : Type 0 where
  by_name : Covers (w.word_span b k) (name_span (w.word_name b k)) → IsWordSpanBack v w u to b k
  kept : IsSafe v w u to k → Covers (w.word_span b k) (w.word_span u k) → IsWordSpanBack v w u to b k

pub record AreBack (t : Text) (v : Values) (w : Stacks) (u to b : ℕ) : Type 0 where
  pub live : v.live b ≡ true
  pub registers : (r : ℕ) → IsRegister r → IsRegisterBack t v w u to b r
  pub lines : (j : ℕ) → IsSumBack t v w u to b j
  pub names : (r : ℕ) → IsRegister r → IsNameBack t v w u to b r
  pub words : (k : ℕ) → IsWordBack v w u to b k
  pub word_names : (k : ℕ) → IsWordNameBack v w u to b k
  pub spans : (r : ℕ) → IsRegister r → IsSpanBack t v w u to b r
  pub word_spans : (k : ℕ) → IsWordSpanBack v w u to b k
  pub told : (j : ℕ) → w.told b j ≡ None
  pub dwindling : (j : ℕ) → w.dwindling b j ≡ None

-- at a return the register is left, its interval is one of the function's returns, and it is what it was when the function began, where it is restored
pub record IsReturned (t : Text) (v : Values) (w : Stacks) (a r : ℕ) : Type 0 where
  pub keeps : keeps_at t r a ≡ true
  pub exits : Covers (v.exit (v.function a) r) (v.at a r)
  pub restores : w.restored (v.function a) r ≡ true → w.name a r ≡ Some (of_begin r 0)

-- ---- an invariant

-- What the code has to say of the tables. Each clause is about one edge of the graph, or about two of one call.
pub record IsStackInvariant (t : Text) (g : Graph) (v : Values) (w : Stacks) : Type 0 where
  pub registers : (j : ℕ) → IsRegister (v.forms j).register × IsRegister (v.forms j).other
  pub offsets : (k : ℕ) → w.offset k < 2 ^ 32
  pub steps : (a b : ℕ) (i : Instr) → Steps g a b → v.live a ≡ true → instr_at t a ≡ Some i → IsPassed v w i a b
  pub calls : (a b : ℕ) (i : Instr) → Calls g a b → v.live a ≡ true → instr_at t a ≡ Some i → AreEntered v w i a b
  pub returns : (e r : ℕ) → e < g.edges → g.returns e ≡ true → v.live (g.source e) ≡ true → IsRegister r → IsReturned t v w (g.source e) r
  pub back : (u to b : ℕ) → Calls g u to → Leads g u b → v.live u ≡ true → AreBack t v w u to b
  pub functions : (a b : ℕ) → Leads g a b → v.function b ≡ v.function a
  pub spared_along : (k a b : ℕ) → Leads g a b → w.spared k a ≡ true → w.spared k b ≡ true
  pub spared_calls : (k a b : ℕ) → Calls g a b → v.live a ≡ true → w.spared k a ≡ true → (w.spared k b ≡ true) × (more : ℕ) ×
      IsDescending v w a more
  pub spares : (k e : ℕ) (i : Instr) → e < g.edges → v.live (g.source e) ≡ true → w.spared k (g.source e) ≡ true →
      instr_at t (g.source e) ≡ Some i → IsSparing v w (g.source e) i k
  pub cells : (c e : ℕ) (i : Instr) → e < g.edges → v.live (g.source e) ≡ true → instr_at t (g.source e) ≡ Some i →
      IsCellKept v (g.source e) i (w.cell c)

-- all that the tables say is so of a view at an address
pub record AreTold (v : Values) (w : Stacks) (a : ℕ) (x : View) : Type 0 where
  pub registers : AreIn v a x.regs
  pub names : (r : ℕ) → IsRegister r → IsNamed (w.name a r) x (reg x.regs r)
  pub words : (k : ℕ) → IsHeld (w.word a k) (x.words k)
  pub word_names : (k : ℕ) → IsNamed (w.word_name a k) x (x.words k)
  pub spans : (r : ℕ) → IsRegister r → IsSpanned (w.span a r) x (reg x.regs r)
  pub word_spans : (k : ℕ) → IsSpanned (w.word_span a k) x (x.words k)
  pub begins : IsHeld (w.begins (v.function a)) (reg x.begun 2)
  pub cells : (c : ℕ) → IsCellHeld (w.cell c) x.bytes
  pub fixed : AreFixedIn w.fixed x.bytes
  pub told : (j : ℕ) → IsTelling (w.told a j) x.regs
  pub dwindling : (j : ℕ) → IsDwindling (w.dwindling a j) x.regs
