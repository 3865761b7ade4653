-- How often a loop turns, by what each turn makes of a register, of a word of the stack, or of what is left of the input: relations of values
-- to the one number that stood there when the header was last come to, which the code has to confirm edge by edge. Ranking functions: Floyd,
-- Assigning meanings to programs, 1967.
use Rattle.std.specs.Prelude.{◌≡◌, ◌≢◌, ℕ, zero, suc, ◌+◌, ◌-◌, ◌*◌, ◌/◌, ◌%◌, ◌^◌, ◌<◌, ◌≤◌, ◌⊎◌, ◌==◌, ◌&&◌, not, nat_lt, Bool, true, false, Option, Some, None, is_some, List, length, if◌then◌else◌}
use Rattle.scale_base.specs.declared.instruction.BranchOp.{BranchOp}
use Rattle.scale_base.specs.declared.instruction.BranchOp.TheVariants.{Beq, Bne, Blt, Bge, Bltu, Bgeu}
use Rattle.scale_base.specs.declared.instruction.ImmOp.TheVariants.{Addi, Andi, Slli, Srli, Srai}
use Rattle.scale_base.specs.declared.instruction.RegOp.TheVariants.{Add, Sub, And, Mulh, Mulhu, Div, Divu, Rem, Remu}
use Rattle.scale_base.specs.declared.instruction.Instr.{Instr}
use Rattle.scale_base.specs.declared.instruction.Instr.TheVariants.{Imm, Reg, Ecall}
use Rattle.scale_base.specs.Arith.{unsigned}
use Rattle.cost_theory.specs.Graph.{Graph, Loops}
use Rattle.code_text.specs.Text.{Text, instr_at}
use Rattle.bound_laws.specs.Registers.{keeps}
use Rattle.bound_laws.specs.Turning.{Leads, Calls}
use Rattle.bound_laws.specs.Values.{Arc, arc, strided, Covers, IsHeld, held, least_of, top_of, sum_of, sum_with, difference_of, scaled, passed, Said, said, IsImpossible, IsRegister, Values, Steps}
use Rattle.stack_laws.specs.Counting as counting
use Rattle.stack_laws.specs.Stacks.{Stacks, IsLoadedTo, IsStoredFrom, IsMissed, IsRestored, IsSafe}
use Rattle.walk_areas.specs.Walking.{IsWalkShown}

-- ---- relations

-- What is known of a value by the number that stood in the counted place when the header was last come to: nothing; that it is more by a
-- number of an interval, modulo 2^32; that it, and so much more, is at most that number divided by a power of 2; that it is at least that
-- number and so much more; or that it is what a read answered since, an error number, or a count of bytes which, with what is left of the
-- input and so much more, is at most that number.
pub data Relation : Type 0 where
  unknown : Relation
  ahead_by : Option Arc → Relation
  below : (less shift : ℕ) → Relation
  above : (more : ℕ) → Relation
  read : (less : ℕ) → Relation

-- error numbers of services are of the upper half of the words
abbrev pub IsError : ℕ → Type 0
IsError value = 2 ^ 31 ≤ value % 2 ^ 32

-- where so many bytes are left of the input
abbrev pub IsRelated : (rest : ℕ) → Relation → (start value : ℕ) → Type 0
IsRelated rest unknown start value = Unit {0}
IsRelated rest (ahead_by i) start value = (d : ℕ) × IsHeld i d × (value % 2 ^ 32 ≡ (start + d) % 2 ^ 32)
IsRelated rest (below less shift) start value = value % 2 ^ 32 + less ≤ start / 2 ^ shift
IsRelated rest (above more) start value = start + more ≤ value % 2 ^ 32
IsRelated rest (read less) start value = (rest + value % 2 ^ 32 + less ≤ start) ⊎ IsError value

-- this one says no more than the other
abbrev pub IsWeaker : Relation → Relation → Type 0
IsWeaker unknown other = Unit {0}
IsWeaker (ahead_by i) (ahead_by j) = Covers i j
IsWeaker (ahead_by i) unknown = ⊥
IsWeaker (ahead_by i) (below less shift) = ⊥
IsWeaker (ahead_by i) (above more) = ⊥
IsWeaker (ahead_by i) (read less) = ⊥
IsWeaker (below less shift) (below more further) = (less ≤ more) × (shift ≤ further)
IsWeaker (below less shift) unknown = ⊥
IsWeaker (below less shift) (ahead_by j) = ⊥
IsWeaker (below less shift) (above more) = ⊥
IsWeaker (below less shift) (read more) = ⊥
IsWeaker (above more) (above most) = more ≤ most
IsWeaker (above more) unknown = ⊥
IsWeaker (above more) (ahead_by j) = ⊥
IsWeaker (above more) (below less shift) = ⊥
IsWeaker (above more) (read less) = ⊥
IsWeaker (read less) (read more) = less ≤ more
IsWeaker (read less) unknown = ⊥
IsWeaker (read less) (ahead_by j) = ⊥
IsWeaker (read less) (below more shift) = ⊥
IsWeaker (read less) (above more) = ⊥

-- ---- what instructions make of them

-- A sum with a number, of what is in an interval: where the sum is less than the other number, that is 2^32 less something that is taken
-- away.
abbrev pub moved_by_number : Relation → Option Arc → ℕ → Relation
moved_by_number unknown i n = unknown
moved_by_number (ahead_by k) i n = ahead_by (sum_with k n)
moved_by_number (below less shift) i n =
    if n == 0 then below less shift
    else if nat_lt n (2 ^ 32) && nat_lt (2 ^ 32 - 1) (least_of i + n) then below (less + (2 ^ 32 - n)) shift
    else unknown
moved_by_number (above more) i n =
    if nat_lt (top_of i + n) (2 ^ 32) then above (more + n)
    else if nat_lt n (2 ^ 32) && nat_lt (2 ^ 32 - 1) (more + n) then above (more + n - 2 ^ 32)
    else unknown
moved_by_number (read less) i n = if n == 0 then read less else unknown

-- a sum with a value of an interval
abbrev pub moved_by_arc : Relation → (i j : Option Arc) → Relation
moved_by_arc unknown i j = unknown
moved_by_arc (ahead_by k) i j = ahead_by (sum_of k j)
moved_by_arc (below less shift) i j = if top_of j == 0 then below less shift else unknown
moved_by_arc (above more) i j = if nat_lt (top_of i + top_of j) (2 ^ 32) then above (more + least_of j) else unknown
moved_by_arc (read less) i j = unknown

-- a difference
abbrev pub moved_back : Relation → (i j : Option Arc) → Relation
moved_back unknown i j = unknown
moved_back (ahead_by k) i j = ahead_by (difference_of k j)
moved_back (below less shift) i j =
    if (is_some i && is_some j) && not (nat_lt (least_of i) (top_of j)) then below (less + least_of j) shift else unknown
moved_back (above more) i j = unknown
moved_back (read less) i j = unknown

-- a product with a power of 2
abbrev pub multiplied : Relation → Option Arc → ℕ → Relation
multiplied unknown i n = unknown
multiplied (ahead_by k) i n = unknown
multiplied (below less shift) i n = unknown
multiplied (above more) i n =
    if is_some i && nat_lt (top_of i * 2 ^ n) (2 ^ 32) then above (more + least_of i * (2 ^ n - 1)) else unknown
multiplied (read less) i n = unknown

-- a word divided by a power of 2, or by a number that is that at least
abbrev pub divided : Relation → ℕ → Bool → Relation
divided unknown n word = unknown
divided (ahead_by i) n word = unknown
divided (below less shift) n word = if word then below 0 (shift + n) else unknown
divided (above more) n word = unknown
divided (read less) n word = unknown

-- what is at most a word, and is less than that by so much
abbrev pub lowered : Relation → ℕ → Bool → Relation
lowered unknown n word = unknown
lowered (ahead_by i) n word = unknown
lowered (below less shift) n word = if word then below (less + n) shift else unknown
lowered (above more) n word = unknown
lowered (read less) n word = unknown

-- the interval has words below 2^31 alone, which are no negative numbers
abbrev pub is_low : Option Arc → Bool
is_low None = false
is_low (Some i) = nat_lt (top_of (Some i)) (2 ^ 31)

-- Neither interval has a negative number, so that signed products, quotients and remainders are unsigned ones.
abbrev pub are_low : (i j : Option Arc) → Bool
are_low i j = is_low i && is_low j

-- the exponent of the greatest power of 2 that is at most the number, where it is no more than the first number
abbrev pub exponent_within : ℕ → ℕ → ℕ
exponent_within zero n = 0
exponent_within (suc k) n = if nat_lt n (2 ^ suc k) then exponent_within k n else suc k

-- how many bits a quotient by a value of an interval has less, at least
unfoldable pub bits_off : Option Arc → ℕ
bits_off j = exponent_within 31 (least_of j)

-- what an instruction writes, by the relations and the intervals of registers before it
abbrev pub made : Instr → (ℕ → Relation) → (ℕ → Option Arc) → Relation
made (Imm Addi rd rs1 imm) row at = moved_by_number (row rs1) (held at rs1) (unsigned imm)
made (Imm Andi rd rs1 imm) row at = lowered (row rs1) 0 (is_some (held at rs1))
made (Imm Slli rd rs1 imm) row at = multiplied (row rs1) (held at rs1) (unsigned imm % 32)
made (Imm Srli rd rs1 imm) row at = divided (row rs1) (unsigned imm % 32) (is_some (held at rs1))
made (Imm Srai rd rs1 imm) row at = divided (row rs1) (unsigned imm % 32) (is_low (held at rs1))
made (Reg Add rd rs1 rs2) row at = moved_by_arc (row rs1) (held at rs1) (held at rs2)
made (Reg Sub rd rs1 rs2) row at = moved_back (row rs1) (held at rs1) (held at rs2)
made (Reg And rd rs1 rs2) row at = lowered (row rs1) 0 (is_some (held at rs1))
made (Reg Mulhu rd rs1 rs2) row at = divided (row rs1) 0 (is_some (held at rs1) && is_some (held at rs2))
made (Reg Mulh rd rs1 rs2) row at = divided (row rs1) 1 (are_low (held at rs1) (held at rs2))
made (Reg Divu rd rs1 rs2) row at =
    divided (row rs1) (bits_off (held at rs2)) (is_some (held at rs1) && nat_lt 0 (least_of (held at rs2)))
made (Reg Div rd rs1 rs2) row at =
    divided (row rs1) (bits_off (held at rs2)) (are_low (held at rs1) (held at rs2) && nat_lt 0 (least_of (held at rs2)))
made (Reg Remu rd rs1 rs2) row at = lowered (row rs2) 1 (is_some (held at rs2) && nat_lt 0 (least_of (held at rs2)))
made (Reg Rem rd rs1 rs2) row at =
    lowered (row rs2) 1 (are_low (held at rs1) (held at rs2) && nat_lt 0 (least_of (held at rs2)))
made i row at = unknown

-- the same of sums and products whose second register has a relation
abbrev pub made_too : Instr → (ℕ → Relation) → (ℕ → Option Arc) → Relation
made_too (Reg Add rd rs1 rs2) row at = moved_by_arc (row rs2) (held at rs2) (held at rs1)
made_too (Reg And rd rs1 rs2) row at = lowered (row rs2) 0 (is_some (held at rs2))
made_too (Reg Mulhu rd rs1 rs2) row at = divided (row rs2) 0 (is_some (held at rs1) && is_some (held at rs2))
made_too (Reg Mulh rd rs1 rs2) row at = divided (row rs2) 1 (are_low (held at rs1) (held at rs2))
made_too i row at = unknown

-- ---- what a branch says of the registers that it compares

-- of a number that is greater than one with the relation, by so much at least
abbrev pub greater : Relation → ℕ → Relation
greater unknown n = unknown
greater (ahead_by i) n = unknown
greater (below less shift) n = unknown
greater (above more) n = above (more + n)
greater (read less) n = unknown

-- and of one that is less
abbrev pub lesser : Relation → ℕ → Relation
lesser unknown n = unknown
lesser (ahead_by i) n = unknown
lesser (below less shift) n = below (less + n) shift
lesser (above more) n = unknown
lesser (read less) n = unknown

-- The numbers compare as words: both are words, and where they compare as signed numbers, the one that is less is none below 0.
abbrev pub are_ordered : BranchOp → (i j : Option Arc) → Bool
are_ordered Blt i j = is_low i && is_some j
are_ordered Bge i j = is_some i && is_low j
are_ordered op i j = is_some i && is_some j

-- of the first register, by the relation of the second one, where the comparison holds
abbrev pub first_related : BranchOp → Relation → Relation
first_related Beq q = q
first_related Bne q = unknown
first_related Blt q = lesser q 1
first_related Bge q = greater q 0
first_related Bltu q = lesser q 1
first_related Bgeu q = greater q 0

-- and of the second register, by that of the first one
abbrev pub second_related : BranchOp → Relation → Relation
second_related Beq q = q
second_related Bne q = unknown
second_related Blt q = greater q 1
second_related Bge q = lesser q 0
second_related Bltu q = greater q 1
second_related Bgeu q = lesser q 0

-- ---- certificates

-- what is counted in: a register, a word of the stack, by its number, or the bytes that are left of the input
pub data Place : Type 0 where
  in_register : ℕ → Place
  in_word : ℕ → Place
  in_input : Place

-- How turns are counted: each one moves a sum of a multiple of the number and of a shift on, takes something away from the number, halves
-- it so many times, or adds something to it, from a number on.
pub data Kind : Type 0 where
  moves : (factor shift : ℕ) → Kind
  lowers : Kind
  raises : (from : ℕ) → Kind
  halves : (bits : ℕ) → Kind

-- Why a loop can't turn often: so many times the least is at most the width.
pub record TurnCertificate : Type 0 where
  pub place : Place
  pub kind : Kind
  pub width : ℕ
  pub least : ℕ
  -- the code of the loop, with its header
  pub body : ℕ → Bool
  -- by address and register, and by address of a word that is counted in, or of what is left of the input
  pub row : ℕ → ℕ → Relation
  pub own : ℕ → Relation
  -- by address: the number at the header was not 0
  pub used : ℕ → Bool
  -- the code that runs while a call from the body is open
  pub quiet : ℕ → Bool

-- x0 has no relation
abbrev pub row_of : TurnCertificate → ℕ → ℕ → Relation
row_of c a r = if nat_lt 0 r && nat_lt r 32 then c.row a r else unknown

-- the instruction writes the register, of what has such a relation
abbrev pub IsMadeOver : Values → TurnCertificate → ℕ → Instr → ℕ → Relation → Type 0
IsMadeOver v c a i r b = (keeps r i ≡ false) × (IsWeaker b (made i (row_of c a) (v.at a)) ⊎ IsWeaker b (made_too i (row_of c a) (v.at a)))

-- a word that is counted in is loaded
abbrev pub IsLoadedOwn : Stacks → TurnCertificate → ℕ → Instr → ℕ → Relation → Type 0
IsLoadedOwn w c a i r b = (k : ℕ) × (c.place ≡ in_word k) × IsLoadedTo w a i k r × IsWeaker b (c.own a)

-- so much at least was taken from the input since the header was last come to, by what is left of it
abbrev pub consumed_by : Relation → ℕ
consumed_by unknown = 0
consumed_by (ahead_by i) = 0
consumed_by (below less shift) = less
consumed_by (above more) = 0
consumed_by (read less) = 0

abbrev pub read_number : ℕ
read_number = 63

-- the interval has one word alone
abbrev pub is_one : Option Arc → ℕ → Bool
is_one None n = false
is_one (Some i) n = (least_of (Some i) == n) && (top_of (Some i) == n)

-- the answer of a read, where the input is counted in
abbrev pub IsReadInto : Values → TurnCertificate → ℕ → Instr → ℕ → Relation → Type 0
IsReadInto v c a i r b = (c.place ≡ in_input) × (i ≡ Ecall) × (r ≡ 10) × (is_one (held (v.at a) 17) read_number ≡ true) ×
    IsWeaker b (read (consumed_by (c.own a)))

-- a register's relation behind the instruction at a
abbrev pub IsRowOver : Values → Stacks → TurnCertificate → ℕ → Instr → ℕ → Relation → Type 0
IsRowOver v w c a i r b = ((keeps r i ≡ true) × IsWeaker b (c.row a r)) ⊎ IsMadeOver v c a i r b ⊎ IsLoadedOwn w c a i r b ⊎
    IsReadInto v c a i r b ⊎ IsWeaker b unknown

-- on the way to b: or by what a branch says of it
abbrev pub IsRelatedBy : Values → TurnCertificate → ℕ → Instr → (b r : ℕ) → Relation → Type 0
IsRelatedBy v c a i b r q = (s : Said) × (said i a b ≡ Some s) × (keeps r i ≡ true) ×
    (are_ordered s.op (held (v.at a) s.first) (held (v.at a) s.second) ≡ true) ×
    (((r ≡ s.first) × IsWeaker q (first_related s.op (row_of c a s.second))) ⊎
    ((r ≡ s.second) × IsWeaker q (second_related s.op (row_of c a s.first))))

abbrev pub IsRowOn : Values → Stacks → TurnCertificate → ℕ → Instr → (b r : ℕ) → Relation → Type 0
IsRowOn v w c a i b r q = IsRowOver v w c a i r q ⊎ IsRelatedBy v c a i b r q

-- no comparison says that no state comes this way
abbrev pub IsPossible : Values → ℕ → Instr → ℕ → Type 0
IsPossible v a i b = IsImpossible (said i a b) (v.at a) → ⊥

-- that of a word, which is left or stored
abbrev pub IsWordOver : Values → Stacks → TurnCertificate → ℕ → Instr → ℕ → Relation → Type 0
IsWordOver v w c a i k b = (IsMissed v w a i k × IsWeaker b (c.own a)) ⊎ ((r : ℕ) × IsStoredFrom w a i k r × IsWeaker b (row_of c a r))

-- A register that the instruction leaves is on the way to b what a read answered, and is no error number.
abbrev pub IsCounted : Values → TurnCertificate → ℕ → Instr → (b n : ℕ) → Type 0
IsCounted v c a i b n = (r : ℕ) × (less : ℕ) × IsRegister r × (keeps r i ≡ true) × (c.row a r ≡ read less) ×
    (top_of (passed i a b (v.at a) r) < 2 ^ 31) × (n ≤ less + least_of (passed i a b (v.at a) r))

-- so much at least was taken from the input on the way to b
abbrev pub IsTakenOn : Values → TurnCertificate → ℕ → Instr → (b n : ℕ) → Type 0
IsTakenOn v c a i b n = (n ≤ consumed_by (c.own a)) ⊎ IsCounted v c a i b n

-- on the way to b, what the place is related by that isn't a register
abbrev pub IsOwnOn : Values → Stacks → TurnCertificate → ℕ → Instr → ℕ → Place → Relation → Type 0
IsOwnOn v w c a i b (in_register r) q = Unit {0}
IsOwnOn v w c a i b (in_word k) q = IsWordOver v w c a i k q
IsOwnOn v w c a i b in_input q = IsTakenOn v c a i b (consumed_by q)

-- and behind a call at a
abbrev pub IsRowBack : Text → Values → Stacks → TurnCertificate → (a to r : ℕ) → Relation → Type 0
IsRowBack t v w c a to r b = IsWeaker b unknown ⊎ (IsRestored t v w a to r × IsWeaker b (c.row a r))

abbrev pub IsOwnBack : Values → Stacks → TurnCertificate → (a to : ℕ) → Place → Relation → Type 0
IsOwnBack v w c a to (in_register r) b = Unit {0}
IsOwnBack v w c a to (in_word k) b = IsWeaker b unknown ⊎ (IsSafe v w a to k × IsWeaker b (c.own a))
IsOwnBack v w c a to in_input b = consumed_by b ≤ consumed_by (c.own a)

-- A register that the instruction leaves is not 0 on the way to b, and so neither was the number at the header.
abbrev pub IsEvident : Values → TurnCertificate → ℕ → Instr → ℕ → Type 0
IsEvident v c a i b = (r : ℕ) × (less : ℕ) × (shift : ℕ) × IsRegister r × (keeps r i ≡ true) × (c.row a r ≡ below less shift) ×
    (0 < least_of (passed i a b (v.at a) r))

-- what the place is related by on the way from a to b, and behind a call at a
abbrev pub IsPlaceOn : Values → Stacks → TurnCertificate → ℕ → Instr → ℕ → Place → Relation → Type 0
IsPlaceOn v w c a i b (in_register r) q = IsRegister r × IsRowOver v w c a i r q
IsPlaceOn v w c a i b (in_word k) q = IsWordOver v w c a i k q
IsPlaceOn v w c a i b in_input q = (n : ℕ) × (q ≡ below n 0) × IsTakenOn v c a i b n

abbrev pub IsPlaceBack : Text → Values → Stacks → TurnCertificate → (a to : ℕ) → Place → Relation → Type 0
IsPlaceBack t v w c a to (in_register r) b = IsRegister r × IsRowBack t v w c a to r b
IsPlaceBack t v w c a to (in_word k) b = IsOwnBack v w c a to (in_word k) b
IsPlaceBack t v w c a to in_input b = (n : ℕ) × (b ≡ below n 0) × (n ≤ consumed_by (c.own a))

-- what stands in the place at the end of a turn, by the kind
abbrev pub IsTurned : TurnCertificate → Kind → Relation → Type 0
IsTurned c (moves factor shift) unknown = ⊥
IsTurned c (moves factor shift) (ahead_by i) = (most : ℕ) × Covers (Some (arc c.least most)) (scaled factor i) ×
    (c.least + most + c.width < 2 ^ 32)
IsTurned c (moves factor shift) (below less by) = ⊥
IsTurned c (moves factor shift) (above more) = ⊥
IsTurned c (moves factor shift) (read less) = ⊥
IsTurned c lowers unknown = ⊥
IsTurned c lowers (ahead_by i) = ⊥
IsTurned c lowers (below less by) = c.least ≤ less
IsTurned c lowers (above more) = ⊥
IsTurned c lowers (read less) = ⊥
IsTurned c (raises from) unknown = ⊥
IsTurned c (raises from) (ahead_by i) = ⊥
IsTurned c (raises from) (below less by) = ⊥
IsTurned c (raises from) (above more) = c.least ≤ more
IsTurned c (raises from) (read less) = ⊥
IsTurned c (halves bits) unknown = ⊥
IsTurned c (halves bits) (ahead_by i) = ⊥
IsTurned c (halves bits) (below less by) = c.least ≤ by
IsTurned c (halves bits) (above more) = ⊥
IsTurned c (halves bits) (read less) = ⊥

-- whether turns are counted by halving, which asks for a number that isn't 0
abbrev pub is_halving : Kind → Bool
is_halving (halves bits) = true
is_halving other = false

-- a number that isn't 0, from here on
abbrev pub IsUsed : Values → TurnCertificate → ℕ → Instr → ℕ → Type 0
IsUsed v c a i b = (c.used a ≡ true) ⊎ IsEvident v c a i b

-- a turn that the instruction at a ends, which is no call, and one that a call ends
abbrev pub IsTurnOver : Values → Stacks → TurnCertificate → ℕ → Instr → ℕ → Type 0
IsTurnOver v w c a i b = ((r : Relation) × IsPlaceOn v w c a i b c.place r × IsTurned c c.kind r) ×
    (is_halving c.kind ≡ true → IsUsed v c a i b)

abbrev pub IsTurnBack : Text → Values → Stacks → TurnCertificate → (a to : ℕ) → Type 0
IsTurnBack t v w c a to = ((r : Relation) × IsPlaceBack t v w c a to c.place r × IsTurned c c.kind r) ×
    (is_halving c.kind ≡ true → c.used a ≡ true)

-- what holds at the header of what is counted in, by its interval there
abbrev pub IsStarted : TurnCertificate → Kind → Option Arc → Type 0
IsStarted c (moves factor shift) i = Covers (Some (arc 0 c.width)) (sum_with (scaled factor i) shift)
IsStarted c lowers i = top_of i ≤ c.width
IsStarted c (raises from) i = (from ≤ least_of i) × (top_of i ≤ from + c.width)
IsStarted c (halves bits) i = (top_of i < 2 ^ bits) × (bits + c.least ≤ c.width + 1)

-- The input has no more bytes than the width, where so many are told.
abbrev pub IsFilled : Option ℕ → (width : ℕ) → Type 0
IsFilled None width = ⊥
IsFilled (Some n) width = n ≤ width

-- the same of a place; of what is left of the input, each turn takes something away
abbrev pub IsStartedIn : Values → Stacks → Option ℕ → TurnCertificate → ℕ → Place → Type 0
IsStartedIn v w most c h (in_register r) = IsStarted c c.kind (held (v.at h) r)
IsStartedIn v w most c h (in_word k) = IsStarted c c.kind (w.word h k)
IsStartedIn v w most c h in_input = (c.kind ≡ lowers) × IsFilled most c.width

-- at the header a relation says that the number is itself
abbrev pub IsBegun : Relation → Type 0
IsBegun unknown = Unit {0}
IsBegun (ahead_by i) = Covers i (Some (strided 0 0 0))
IsBegun (below less shift) = (less ≡ 0) × (shift ≡ 0)
IsBegun (above more) = more ≡ 0
IsBegun (read less) = ⊥

-- What the code has to say of a certificate for the loop with this header and this extent. Each clause is about one edge of the graph, or
-- about two of one call.
pub record IsTurnCertificate (t : Text) (g : Graph) (v : Values) (w : Stacks) (most : Option ℕ) (header : ℕ) (extent : ℕ → Bool)
    (c : TurnCertificate) : Type 0 where
  -- the header is in the body, and begins it: nothing is known there but of what is counted in
  pub first : c.body header ≡ true
  pub rows : (r : ℕ) → IsRegister r → (c.row header r ≡ unknown) ⊎ ((c.place ≡ in_register r) × IsBegun (c.row header r))
  pub owns : IsBegun (c.own header)
  pub unused : c.used header ≡ false
  pub started : IsStartedIn v w most c header c.place
  -- the body is entered at its header alone, by edges, by calls and at the start of a run
  pub entered : (a b : ℕ) → Leads g a b → v.live a ≡ true → c.body b ≡ true → b ≢ header → c.body a ≡ true
  pub called : (a b : ℕ) → Calls g a b → v.live a ≡ true → c.body b ≡ true → b ≡ header
  pub entry : c.body t.entry ≡ true → t.entry ≡ header
  -- what is counted as a turn comes from the body
  pub counts : (a : ℕ) → Leads g a header → v.live a ≡ true → extent a ≡ true → c.body a ≡ true
  -- within the body each instruction keeps the relations, where a state may come
  pub along : (a b r : ℕ) (i : Instr) → Steps g a b → v.live a ≡ true → c.body a ≡ true → c.body b ≡ true → b ≢ header →
      instr_at t a ≡ Some i → IsPossible v a i b → IsRegister r → IsRowOn v w c a i b r (c.row b r)
  pub along_own : (a b : ℕ) (i : Instr) → Steps g a b → v.live a ≡ true → c.body a ≡ true → c.body b ≡ true → b ≢ header →
      instr_at t a ≡ Some i → IsPossible v a i b → IsOwnOn v w c a i b c.place (c.own b)
  pub along_used : (a b : ℕ) (i : Instr) → Steps g a b → v.live a ≡ true → c.body a ≡ true → c.body b ≡ true → b ≢ header →
      instr_at t a ≡ Some i → IsPossible v a i b → c.used b ≡ true → IsUsed v c a i b
  -- and so does each call
  pub back : (a to b r : ℕ) → Calls g a to → Leads g a b → v.live a ≡ true → c.body a ≡ true → c.body b ≡ true → b ≢ header →
      IsRegister r → IsRowBack t v w c a to r (c.row b r)
  pub back_own : (a to b : ℕ) → Calls g a to → Leads g a b → v.live a ≡ true → c.body a ≡ true → c.body b ≡ true → b ≢ header →
      IsOwnBack v w c a to c.place (c.own b)
  pub back_used : (a to b : ℕ) → Calls g a to → Leads g a b → v.live a ≡ true → c.body a ≡ true → c.body b ≡ true → b ≢ header →
      c.used b ≡ true → c.used a ≡ true
  -- each turn does what the kind says
  pub turns : (a : ℕ) (i : Instr) → Steps g a header → v.live a ≡ true → c.body a ≡ true → instr_at t a ≡ Some i →
      IsPossible v a i header → IsTurnOver v w c a i header
  pub turns_back : (a to : ℕ) → Calls g a to → Leads g a header → v.live a ≡ true → c.body a ≡ true → IsTurnBack t v w c a to
  -- calls from the body go to quiet code
  pub calls : (a b : ℕ) → Calls g a b → v.live a ≡ true → c.body a ≡ true → c.quiet b ≡ true
  -- quiet code stays quiet along its edges and calls, and never comes to the header
  pub quiet_along : (a b : ℕ) → Leads g a b → c.quiet a ≡ true → c.quiet b ≡ true
  pub quiet_calls : (a b : ℕ) → Calls g a b → c.quiet a ≡ true → c.quiet b ≡ true
  pub quiet_apart : c.quiet header ≡ false

-- an input has no more bytes than is told, where that is told
abbrev pub IsInputWithin : Option ℕ → List ℕ → Type 0
IsInputWithin None input = Unit {0}
IsInputWithin (Some n) input = length input ≤ n

-- A bound of a loop that the code alone shows by its turns.
pub record IsTurnShown (t : Text) (g : Graph) (v : Values) (w : Stacks) (most : Option ℕ) (l : Loops) (k : ℕ) : Type 0 where
  pub certificate : TurnCertificate
  pub is : IsTurnCertificate t g v w most (l.header k) (l.inside k) certificate
  pub positive : 0 < certificate.least
  pub enough : certificate.width / certificate.least ≤ l.bound k

-- or in one of the other ways: by a counter, or by a walk
abbrev pub IsShown : Text → Graph → Values → Stacks → Option ℕ → Loops → ℕ → Type 0
IsShown t g v w most l k = counting.IsShown t g v w l k ⊎ IsTurnShown t g v w most l k ⊎ IsWalkShown t g v w l k
