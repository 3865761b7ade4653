-- Intervals of the registers at each address, and of sums and differences of two, which no step leads out of: an interval analysis (Cousot
-- and Cousot, Static determination of dynamic properties of programs, 1976) with intervals that may wrap round (Navas, Schachte,
-- Søndergaard and Stuckey, Signedness-agnostic program analysis, 2012). The code has to confirm them edge by edge.
use Rattle.std.specs.Prelude.{◌≡◌, ℕ, ◌+◌, ◌-◌, ◌*◌, ◌/◌, ◌%◌, ◌^◌, ◌<◌, ◌≤◌, ◌⊎◌, ◌==◌, ◌&&◌, ◌||◌, not, nat_lt, min, max, Bool, true, false, List, Option, Some, None, option_map, is_some, if◌then◌else◌}
use Rattle.scale_base.specs.declared.instruction.BranchOp.{BranchOp}
use Rattle.scale_base.specs.declared.instruction.BranchOp.TheVariants.{Beq, Bne, Blt, Bge, Bltu, Bgeu}
use Rattle.scale_base.specs.declared.instruction.LoadOp.{LoadOp}
use Rattle.scale_base.specs.declared.instruction.LoadOp.TheVariants.{Lb, Lh, Lw, Lbu, Lhu}
use Rattle.scale_base.specs.declared.instruction.ImmOp.{ImmOp}
use Rattle.scale_base.specs.declared.instruction.ImmOp.TheVariants.{Addi, Slti, Sltiu, Xori, Ori, Andi, Slli, Srli, Srai}
use Rattle.scale_base.specs.declared.instruction.RegOp.{RegOp}
use Rattle.scale_base.specs.declared.instruction.RegOp.TheVariants.{Add, Sub, Sll, Slt, Sltu, Xor, Srl, Sra, Or, And, Mul, Mulh, Mulhsu, Mulhu, Div, Divu, Rem, Remu}
use Rattle.scale_base.specs.declared.instruction.Instr.{Instr}
use Rattle.scale_base.specs.declared.instruction.Instr.TheVariants.{Lui, Auipc, Jal, Jalr, Branch, Load, Imm, Reg, Ecall}
use Rattle.scale_base.specs.Arith.{plus, moved_by, unsigned}
use Rattle.scale_base.specs.State.{reg}
use Rattle.cost_theory.specs.Graph.{Graph}
use Rattle.code_text.specs.Text.{Text, instr_at}
use Rattle.bound_laws.specs.Registers.{Measure, measured, keeps, effect}

-- ---- wrapped intervals

-- the words from `low` on, up to so many more behind it, modulo 2^32, and of these each that is a multiple of the stride behind it
pub record Arc : Type 0 where
  pub low : ℕ
  pub more : ℕ
  pub stride : ℕ

abbrev pub IsMultiple : ℕ → ℕ → Type 0
IsMultiple stride n = (k : ℕ) × (n ≡ stride * k)

-- how far a word is behind another, modulo 2^32
abbrev pub ahead : ℕ → ℕ → ℕ
ahead low value = (value + (2 ^ 32 - low)) % 2 ^ 32

pub record IsIn (a : Arc) (value : ℕ) : Type 0 where
  pub word : value < 2 ^ 32
  pub start : a.low < 2 ^ 32
  pub near : ahead a.low value ≤ a.more
  pub step : IsMultiple a.stride (ahead a.low value)

-- nothing is known where there is no interval, not even that the number is a word
abbrev pub IsHeld : Option Arc → ℕ → Type 0
IsHeld None value = Unit {0}
IsHeld (Some a) value = IsIn a value

-- what is in the other is in this one, with its strides
abbrev pub IsPart : Arc → Arc → Type 0
IsPart a b = (ahead a.low b.low + b.more ≤ a.more) × (a.more < 2 ^ 32) × IsMultiple a.stride (ahead a.low b.low) ×
    IsMultiple a.stride b.stride

-- all words are
abbrev pub IsAll : Arc → Type 0
IsAll a = (2 ^ 32 - 1 ≤ a.more) × (a.stride ≡ 1)

abbrev pub Covers : Option Arc → Option Arc → Type 0
Covers None other = Unit {0}
Covers (Some a) None = ⊥
Covers (Some a) (Some b) = (a.low < 2 ^ 32) × (IsPart a b ⊎ IsAll a)

abbrev pub arc : ℕ → ℕ → Arc
arc low more = record { low = low; more = more; stride = 1 }

abbrev pub strided : ℕ → ℕ → ℕ → Arc
strided low more stride = record { low = low; more = more; stride = stride }

-- any word
abbrev pub word : Option Arc
word = Some (arc 0 (2 ^ 32 - 1))

abbrev pub exactly : ℕ → Option Arc
exactly n = if nat_lt n (2 ^ 32) then Some (strided n 0 0) else None

-- the least number of an interval
abbrev pub least : Arc → ℕ
least a = if nat_lt (a.low + a.more) (2 ^ 32) then a.low else 0

abbrev pub least_of : Option Arc → ℕ
least_of None = 0
least_of (Some a) = least a

-- the greatest number of an interval
abbrev pub top : Arc → ℕ
top a = if nat_lt (a.low + a.more) (2 ^ 32) then a.low + a.more else 2 ^ 32 - 1

abbrev pub top_of : Option Arc → ℕ
top_of None = 2 ^ 32 - 1
top_of (Some a) = top a

-- the numbers from one to another; one number has the stride 0
abbrev pub from_to : ℕ → ℕ → Option Arc
from_to from to = Some (strided from (to - from) (if from == to then 0 else 1))

-- ---- sums and multiples

-- a stride of sums: 0 is that of one number
abbrev pub common_stride : ℕ → ℕ → ℕ
common_stride s t = if s == 0 then t else if t == 0 then s else if s == t then s else 1

abbrev pub sum_of : Option Arc → Option Arc → Option Arc
sum_of None other = word
sum_of (Some i) None = word
sum_of (Some i) (Some j) = if nat_lt (i.more + j.more) (2 ^ 32) then Some (strided (plus i.low j.low) (i.more + j.more)
    (common_stride i.stride j.stride)) else word

-- the sum with a number
abbrev pub sum_with : Option Arc → ℕ → Option Arc
sum_with None n = word
sum_with (Some i) n = Some (strided (plus i.low n) i.more i.stride)

-- whether the last number is a multiple of the stride behind the first
abbrev pub is_whole : Arc → Bool
is_whole i = nat_lt i.more (2 ^ 32) && (i.more % i.stride == 0)

-- the numbers below 0 in place of those above, modulo 2^32
abbrev pub negated : Arc → Arc
negated i = strided ((2 ^ 32 - plus i.low i.more) % 2 ^ 32) i.more (if is_whole i then i.stride else 1)

abbrev pub difference_of : Option Arc → Option Arc → Option Arc
difference_of i None = word
difference_of i (Some j) = sum_of i (Some (negated j))

-- the multiples by a number, modulo 2^32
abbrev pub times : Option Arc → ℕ → Option Arc
times None factor = word
times (Some i) factor = if nat_lt (i.more * factor) (2 ^ 32) then Some (strided (i.low * factor % 2 ^ 32) (i.more * factor)
    (i.stride * factor)) else word

abbrev pub negated_of : Option Arc → Option Arc
negated_of None = word
negated_of (Some i) = Some (negated i)

-- the multiples by a factor, where 2^32 - 1 stands for -1
abbrev pub multiple : ℕ → Option Arc → Option Arc
multiple factor None = word
multiple factor (Some i) =
    if factor == 1 then Some i
    else if factor == 2 ^ 32 - 1 then Some (negated i)
    else if nat_lt 0 factor && nat_lt factor (2 ^ 31) then times (Some i) factor
    else if nat_lt factor (2 ^ 32) && nat_lt 0 factor then negated_of (times (Some i) (2 ^ 32 - factor))
    else word

abbrev pub scaled : ℕ → Option Arc → Option Arc
scaled factor i = if factor == 0 then Some (strided 0 0 0) else multiple factor i

-- ---- products, quotients and shifts

-- the product: by the one number of an interval that has no other, or of numbers whose products are words
abbrev pub product_of : Option Arc → Option Arc → Option Arc
product_of None j = word
product_of (Some i) None = word
product_of (Some i) (Some j) =
    if j.more == 0 then scaled j.low (Some i)
    else if i.more == 0 then scaled i.low (Some j)
    else if nat_lt (top i * top j) (2 ^ 32) then from_to (least i * least j) (top i * top j)
    else word

-- the upper half of the product
abbrev pub upper_product_of : Option Arc → Option Arc → Option Arc
upper_product_of None j = None
upper_product_of (Some i) None = None
upper_product_of (Some i) (Some j) = from_to (least i * least j / 2 ^ 32) (top i * top j / 2 ^ 32)

-- the quotient; any word, where the divisor may be 0
abbrev pub quotient_of : Option Arc → Option Arc → Option Arc
quotient_of None j = None
quotient_of (Some i) j = if nat_lt 0 (least_of j) then from_to (least i / top_of j) (top i / least_of j) else word

-- the remainder, which is the dividend where the divisor is greater, or 0
abbrev pub remainder_of : Option Arc → Option Arc → Option Arc
remainder_of None j = None
remainder_of (Some i) j =
    if nat_lt (top i) (least_of j) then Some i
    else if nat_lt 0 (least_of j) then Some (arc 0 (min (top i) (top_of j - 1)))
    else Some (arc 0 (top i))

-- Neither number is negative, so that signed products and divisions are unsigned ones.
abbrev pub are_low : Arc → Arc → Bool
are_low i j = nat_lt (top i) (2 ^ 31) && nat_lt (top j) (2 ^ 31)

abbrev pub signed_quotient_of : Option Arc → Option Arc → Option Arc
signed_quotient_of None j = word
signed_quotient_of (Some i) None = word
signed_quotient_of (Some i) (Some j) = if are_low i j then quotient_of (Some i) (Some j) else word

abbrev pub signed_remainder_of : Option Arc → Option Arc → Option Arc
signed_remainder_of None j = None
signed_remainder_of (Some i) None = word
signed_remainder_of (Some i) (Some j) = if are_low i j then remainder_of (Some i) (Some j) else word

abbrev pub signed_upper_product_of : Option Arc → Option Arc → Option Arc
signed_upper_product_of None j = word
signed_upper_product_of (Some i) None = word
signed_upper_product_of (Some i) (Some j) = if are_low i j then upper_product_of (Some i) (Some j) else word

-- what a shift by a register multiplies or divides by
abbrev pub power_of : Option Arc → Option Arc
power_of None = Some (arc 1 (2 ^ 31 - 1))
power_of (Some j) = if j.more == 0 then exactly (2 ^ (j.low % 32)) else Some (arc 1 (2 ^ 31 - 1))

-- A signed number divided by a power of 2, and rounded down: with 2^31 more it is an unsigned one.
abbrev pub lowered_by : Option Arc → ℕ → Option Arc
lowered_by None n = word
lowered_by (Some i) n = sum_with (quotient_of (sum_with (Some i) (2 ^ 31)) (exactly n)) (2 ^ 32 - 2 ^ 31 / n)

abbrev pub lowered_of : Option Arc → Option Arc → Option Arc
lowered_of i None = word
lowered_of i (Some j) = if j.more == 0 then lowered_by i (2 ^ (j.low % 32)) else word

-- ---- bits

-- each number of the interval is 0, or has all bits
abbrev pub is_mask : Arc → Bool
is_mask i = (i.low == 2 ^ 32 - 1) && nat_lt i.more 2

-- the interval goes on from the greatest word to 0
abbrev pub goes_round : Arc → Bool
goes_round i = nat_lt (2 ^ 32 - 1) (i.low + i.more)

-- what the bits of both numbers have in common: a mask leaves the number, or 0
abbrev pub common : Arc → Arc → Arc
common i j =
    if is_mask j && goes_round i then arc i.low i.more
    else if is_mask i && goes_round j then arc j.low j.more
    else arc 0 (min (top i) (top j))

abbrev pub common_of : Option Arc → Option Arc → Option Arc
common_of None None = None
common_of None (Some j) = Some (arc 0 (top j))
common_of (Some i) None = Some (arc 0 (top i))
common_of (Some i) (Some j) = Some (common i j)

-- the greatest word that is at most a sum of both numbers
abbrev pub top_sum : Arc → Arc → ℕ
top_sum i j = min (top i + top j) (2 ^ 32 - 1)

-- the bits of either number
abbrev pub united_of : Option Arc → Option Arc → Option Arc
united_of None j = None
united_of (Some i) None = None
united_of (Some i) (Some j) = from_to (max (least i) (least j)) (top_sum i j)

-- the bits of one number that the other doesn't have
abbrev pub parted_of : Option Arc → Option Arc → Option Arc
parted_of None j = None
parted_of (Some i) None = None
parted_of (Some i) (Some j) = Some (arc 0 (top_sum i j))

-- ---- what instructions give

abbrev pub truth : Option Arc
truth = Some (arc 0 1)

-- Nothing is known of a result that is a word only where an operand is one, if nothing is known of that.
abbrev pub reg_arc : RegOp → Option Arc → Option Arc → Option Arc
reg_arc Add i j = sum_of i j
reg_arc Sub i j = difference_of i j
reg_arc Sll i j = product_of i (power_of j)
reg_arc Slt i j = truth
reg_arc Sltu i j = truth
reg_arc Xor i j = parted_of i j
reg_arc Srl i j = quotient_of i (power_of j)
reg_arc Sra i j = lowered_of i j
reg_arc Or i j = united_of i j
reg_arc And i j = common_of i j
reg_arc Mul i j = product_of i j
reg_arc Mulh i j = signed_upper_product_of i j
reg_arc Mulhsu i j = if is_some j then word else None
reg_arc Mulhu i j = upper_product_of i j
reg_arc Div i j = signed_quotient_of i j
reg_arc Divu i j = quotient_of i j
reg_arc Rem i j = signed_remainder_of i j
reg_arc Remu i j = remainder_of i j

abbrev pub imm_arc : ImmOp → Option Arc → ℕ → Option Arc
imm_arc Addi i n = sum_with i n
imm_arc Slti i n = truth
imm_arc Sltiu i n = truth
imm_arc Xori i n = parted_of i (exactly n)
imm_arc Ori i n = united_of i (exactly n)
imm_arc Andi i n = common_of i (exactly n)
imm_arc Slli i n = times i (2 ^ (n % 32))
imm_arc Srli i n = quotient_of i (exactly (2 ^ (n % 32)))
imm_arc Srai i n = lowered_by i (2 ^ (n % 32))

-- Memory holds bytes, and no instruction of the text sees the window.
abbrev pub load_arc : LoadOp → Option Arc
load_arc Lb = Some (arc (2 ^ 32 - 128) 255)
load_arc Lh = Some (arc (2 ^ 32 - 32768) 65535)
load_arc Lw = word
load_arc Lbu = Some (arc 0 255)
load_arc Lhu = Some (arc 0 65535)

-- The answer of a service: a number of bytes, at most 256 and at most what x12 asks for, or one of the three negative numbers of a refusal.
abbrev pub answer_arc : Option Arc → Option Arc
answer_arc count = Some (arc (2 ^ 32 - 38) (38 + min 256 (top_of count)))

-- The interval of a register by those of all. x0 is 0, and so is what no instruction has.
abbrev pub held : (ℕ → Option Arc) → ℕ → Option Arc
held at r = if nat_lt 0 r && nat_lt r 32 then at r else Some (strided 0 0 0)

-- what the instruction at pc writes
abbrev pub written : Instr → ℕ → (ℕ → Option Arc) → Option Arc
written (Lui rd imm) pc at = exactly imm
written (Auipc rd imm) pc at = exactly (plus pc imm)
written (Jal rd offset) pc at = exactly (plus pc 4)
written (Jalr rd rs1 offset) pc at = exactly (plus pc 4)
written (Load op rd rs1 offset) pc at = load_arc op
written (Imm op rd rs1 imm) pc at = imm_arc op (held at rs1) (unsigned imm)
written (Reg op rd rs1 rs2) pc at = reg_arc op (held at rs1) (held at rs2)
written Ecall pc at = answer_arc (held at 12)
written i pc at = None

-- without the number at an end
abbrev pub without : Option Arc → ℕ → Option Arc
without None n = None
without (Some i) n =
    if i.low == n then Some (strided (plus i.low i.stride) (i.more - i.stride) i.stride)
    else if plus i.low i.more == n then Some (strided i.low (i.more - (if is_whole i then i.stride else 1)) i.stride)
    else Some i

-- ---- what two intervals have in common

-- the first multiple of a stride that is at least so much
abbrev pub multiple_from : ℕ → ℕ → ℕ
multiple_from stride n = if stride == 0 then n else n + (stride - 1) - (n + (stride - 1)) % stride

-- the numbers of an interval that are at least so far behind its first one, and at most so far; all of its numbers, where none is
abbrev pub part : Arc → ℕ → ℕ → Arc
part i from to =
    if nat_lt (min i.more to) (multiple_from i.stride from) then i
    else strided (plus i.low (multiple_from i.stride from)) (min i.more to - multiple_from i.stride from) i.stride

-- the numbers of an interval that another one has too, where these are one interval; else those of the shorter one
abbrev pub meet : Arc → Arc → Arc
meet i j =
    if nat_lt (ahead i.low j.low + j.more) (2 ^ 32) then part i (ahead i.low j.low) (ahead i.low j.low + j.more)
    else if nat_lt i.more (ahead i.low j.low) then part i 0 (ahead i.low j.low + j.more - 2 ^ 32)
    else if nat_lt j.more i.more then j
    else i

abbrev pub meet_of : Option Arc → Option Arc → Option Arc
meet_of None j = j
meet_of (Some i) None = Some i
meet_of (Some i) (Some j) = Some (meet i j)

-- ---- what a branch says of its registers

-- a comparison of two registers that holds
pub record Said : Type 0 where
  pub op : BranchOp
  pub first : ℕ
  pub second : ℕ

-- the comparison that holds where the other doesn't
abbrev pub opposite : BranchOp → BranchOp
opposite Beq = Bne
opposite Bne = Beq
opposite Blt = Bge
opposite Bge = Blt
opposite Bltu = Bgeu
opposite Bgeu = Bltu

-- A branch that goes elsewhere than to the next word is taken, and one that goes elsewhere than to its target isn't.
abbrev pub said : Instr → ℕ → ℕ → Option Said
said (Branch op rs1 rs2 offset) pc next =
    if not (next == plus pc 4) then Some (record { op = op; first = rs1; second = rs2 })
    else if not (next == moved_by pc offset) then Some (record { op = opposite op; first = rs1; second = rs2 })
    else None
said i pc next = None

-- the numbers from one to another
pub record Interval : Type 0 where
  pub from : ℕ
  pub to : ℕ

abbrev pub between : ℕ → ℕ → Interval
between from to = record { from = from; to = to }

-- An interval without wrapping: as unsigned numbers, and as signed ones plus 2^31. All words, where it wraps there.
abbrev pub plain : ℕ → ℕ → Interval
plain low more = if nat_lt (low + more) (2 ^ 32) then between low (low + more) else between 0 (2 ^ 32 - 1)

abbrev pub biased : ℕ → ℕ
biased a = plus a (2 ^ 31)

abbrev pub is_signed : BranchOp → Bool
is_signed Blt = true
is_signed Bge = true
is_signed op = false

abbrev pub view : BranchOp → Arc → Interval
view op i = if is_signed op then plain (biased i.low) i.more else plain i.low i.more

-- and back
abbrev pub of_view : BranchOp → Interval → Arc
of_view op i = if is_signed op then arc (biased i.from) (i.to - i.from) else arc i.from (i.to - i.from)

-- the numbers of i that are below some of j, and those that are above some
abbrev pub below : Interval → Interval → Interval
below i j = between i.from (min i.to (j.to - 1))

abbrev pub above : Interval → Interval → Interval
above i j = between (max i.from (j.from + 1)) i.to

abbrev pub at_most : Interval → Interval → Interval
at_most i j = between i.from (min i.to j.to)

abbrev pub at_least : Interval → Interval → Interval
at_least i j = between (max i.from j.from) i.to

abbrev pub both : Interval → Interval → Interval
both i j = between (max i.from j.from) (min i.to j.to)

-- without the one number of j, at an end of i
abbrev pub without_one : Interval → Interval → Interval
without_one i j = between (if (j.from == j.to) && (i.from == j.from) then i.from + 1 else i.from)
    (if (j.from == j.to) && (i.to == j.from) then i.to - 1 else i.to)

-- of the first register, and of the second one, where the comparison holds
abbrev pub first_range : BranchOp → Interval → Interval → Interval
first_range Beq i j = both i j
first_range Bne i j = without_one i j
first_range Blt i j = below i j
first_range Bge i j = at_least i j
first_range Bltu i j = below i j
first_range Bgeu i j = at_least i j

abbrev pub second_range : BranchOp → Interval → Interval → Interval
second_range Beq i j = both j i
second_range Bne i j = without_one j i
second_range Blt i j = above j i
second_range Bge i j = at_most j i
second_range Bltu i j = above j i
second_range Bgeu i j = at_most j i

abbrev pub first_by : BranchOp → Option Arc → Option Arc → Option Arc
first_by op None j = None
first_by op (Some i) None = Some i
first_by Bne (Some i) (Some j) = if j.more == 0 then without (Some i) j.low else Some i
first_by op (Some i) (Some j) = Some (meet i (of_view op (first_range op (view op i) (view op j))))

abbrev pub second_by : BranchOp → Option Arc → Option Arc → Option Arc
second_by op i None = None
second_by op None (Some j) = Some j
second_by Bne (Some i) (Some j) = if i.more == 0 then without (Some j) i.low else Some j
second_by op (Some i) (Some j) = Some (meet j (of_view op (second_range op (view op i) (view op j))))

abbrev pub kept_by : Option Said → (ℕ → Option Arc) → ℕ → Option Arc
kept_by None at r = at r
kept_by (Some s) at r =
    if r == s.first then first_by s.op (held at s.first) (held at s.second)
    else if r == s.second then second_by s.op (held at s.first) (held at s.second)
    else at r

-- ---- what a branch says of the difference of its registers

-- the differences of numbers of two intervals, and 2^32 more
abbrev pub differences : Interval → Interval → Interval
differences i j = between (i.from + 2 ^ 32 - j.to) (i.to + 2 ^ 32 - j.from)

-- those of numbers that compare so
abbrev pub ordered : BranchOp → Interval → Interval
ordered Beq d = between (2 ^ 32) (2 ^ 32)
ordered Bne d = d
ordered Blt d = between d.from (min d.to (2 ^ 32 - 1))
ordered Bge d = between (max d.from (2 ^ 32)) d.to
ordered Bltu d = between d.from (min d.to (2 ^ 32 - 1))
ordered Bgeu d = between (max d.from (2 ^ 32)) d.to

-- and as words
abbrev pub of_differences : Interval → Arc
of_differences d = arc (d.from % 2 ^ 32) (min (d.to - d.from) (2 ^ 32 - 1))

-- the first word less the second one, where the comparison holds
abbrev pub difference_by : BranchOp → Option Arc → Option Arc → Option Arc
difference_by op None j = None
difference_by op (Some i) None = None
difference_by op (Some i) (Some j) = Some (of_differences (ordered op (differences (first_range op (view op i) (view op j))
    (second_range op (view op i) (view op j)))))

-- the measure is the first register less the second one, and its shift
abbrev pub is_minus : Measure → ℕ → ℕ → Bool
is_minus m first second = ((m.register == first) && (m.factor == 1)) && ((m.other == second) && (m.other_factor == 2 ^ 32 - 1))

-- what a comparison says of a measure
abbrev pub compared : Option Said → Measure → (ℕ → Option Arc) → Option Arc
compared None m at = None
compared (Some s) m at =
    if is_minus m s.first s.second then sum_with (difference_by s.op (held at s.first) (held at s.second)) m.shift
    else if is_minus m s.second s.first then sum_with (option_map negated (difference_by s.op (held at s.first) (held at s.second))) m.shift
    else None

-- no numbers of these intervals compare so
abbrev pub IsEmpty : Interval → Type 0
IsEmpty i = i.to < i.from

abbrev pub HasNone : BranchOp → Option Arc → Option Arc → Type 0
HasNone op None j = ⊥
HasNone op (Some i) None = ⊥
HasNone op (Some i) (Some j) = IsEmpty (first_range op (view op i) (view op j)) ⊎ IsEmpty (second_range op (view op i) (view op j))

abbrev pub IsImpossible : Option Said → (ℕ → Option Arc) → Type 0
IsImpossible None at = ⊥
IsImpossible (Some s) at = HasNone s.op (held at s.first) (held at s.second)

-- the interval of a register behind the instruction at pc, on the way to an address
abbrev pub passed : Instr → ℕ → ℕ → (ℕ → Option Arc) → ℕ → Option Arc
passed i pc next at r = if keeps r i then kept_by (said i pc next) at r else written i pc at

-- ---- sums and differences of two registers

-- the interval of a measure, by those of the registers
abbrev pub line_of : Measure → (ℕ → Option Arc) → Option Arc
line_of m at = sum_with (sum_of (scaled m.factor (held at m.register)) (scaled m.other_factor (held at m.other))) m.shift

-- the comparison says that the registers differ
abbrev pub differs : BranchOp → Bool
differs Bne = true
differs Blt = true
differs Bltu = true
differs op = false

-- the measure is a difference of the registers that are compared, both words, and of a shift
abbrev pub is_difference : Option Said → Measure → (ℕ → Option Arc) → Bool
is_difference None m at = false
is_difference (Some s) m at =
    differs s.op && is_some (held at m.register) && is_some (held at m.other)
    && (((m.register == s.first) && (m.other == s.second)) || ((m.register == s.second) && (m.other == s.first)))
    && (((m.factor == 1) && (m.other_factor == 2 ^ 32 - 1)) || ((m.factor == 2 ^ 32 - 1) && (m.other_factor == 1)))

-- ---- an invariant

abbrev pub keeps_of : ℕ → Option Instr → Bool
keeps_of r None = false
keeps_of r (Some i) = keeps r i

-- whether the instruction at an address leaves the register as it is
abbrev pub keeps_at : Text → ℕ → ℕ → Bool
keeps_at t r v = keeps_of r (instr_at t v)

abbrev pub IsRegister : ℕ → Type 0
IsRegister r = (0 < r) × (r < 32)

pub record Values : Type 0 where
  -- the addresses that a run may come to: intervals may show that it never comes to others of the reached code
  pub live : ℕ → Bool
  -- by address and register, before the instruction there
  pub at : ℕ → ℕ → Option Arc
  -- by function and register, at its returns
  pub exit : ℕ → ℕ → Option Arc
  -- sums and differences of two registers, by number, and their intervals by address and number
  pub forms : ℕ → Measure
  pub lines : ℕ → ℕ → Option Arc
  -- the function of an address, by any number
  pub function : ℕ → ℕ

-- an edge of an instruction that is no call
abbrev pub Steps : Graph → ℕ → ℕ → Type 0
Steps g a b = (e : ℕ) × (e < g.edges) × (g.source e ≡ a) × (g.target e ≡ Some b) × (g.callee e ≡ None)

-- a register by a line of it with the factor 1, and by the other register of the line
abbrev pub opposite_of : ℕ → ℕ
opposite_of n = (2 ^ 32 - n % 2 ^ 32) % 2 ^ 32

abbrev pub solved : Measure → Option Arc → Option Arc → Option Arc
solved m line other = sum_with (sum_of line (scaled (opposite_of m.other_factor) other)) (opposite_of m.shift)

-- the interval of a register that line j gives behind the instruction, which adds so much to that
abbrev pub solved_by : Values → Instr → ℕ → ℕ → ℕ → ℕ → Option Arc
solved_by v i a b j e = solved (v.forms j) (sum_with (v.lines a j) e) (held (passed i a b (v.at a)) (v.forms j).other)

-- the register is a word, and its interval holds that, or what of it the instruction leaves
abbrev pub IsSolved : Values → Instr → ℕ → ℕ → ℕ → Type 0
IsSolved v i a b r =
    (j : ℕ) × (e : ℕ) × ((v.forms j).register ≡ r) × ((v.forms j).factor ≡ 1) × (effect (v.forms j) i ≡ Some e) ×
    (is_some (passed i a b (v.at a) r) ≡ true) ×
    (Covers (v.at b r) (solved_by v i a b j e) ⊎ Covers (v.at b r) (meet_of (solved_by v i a b j e) (passed i a b (v.at a) r)))

-- a register's interval at b holds what the instruction at a leaves in it
abbrev pub IsCovered : Values → Instr → ℕ → ℕ → ℕ → Type 0
IsCovered v i a b r = Covers (v.at b r) (passed i a b (v.at a) r) ⊎ ((keeps r i ≡ true) × Covers (v.at b r) (v.at a r)) ⊎ IsSolved v i a b r

-- and a line's interval: by the registers, or by what the instruction adds, and by what a branch says of their difference
abbrev pub IsLineCovered : Values → Instr → ℕ → ℕ → ℕ → Type 0
IsLineCovered v i a b j =
    Covers (v.lines b j) (line_of (v.forms j) (passed i a b (v.at a))) ⊎
    ((e : ℕ) × (effect (v.forms j) i ≡ Some e) ×
    (Covers (v.lines b j) (sum_with (v.lines a j) e) ⊎
    ((e ≡ 0) × (is_difference (said i a b) (v.forms j) (v.at a) ≡ true) × Covers (v.lines b j)
    (without (v.lines a j) ((v.forms j).shift % 2 ^ 32))) ⊎
    ((e ≡ 0) × Covers (v.lines b j) (meet_of (v.lines a j) (compared (said i a b) (v.forms j) (v.at a))))))

-- a run may come to the address, where the registers are in the intervals, and so are the lines
pub record AreIn (v : Values) (a : ℕ) (regs : List ℕ) : Type 0 where
  pub live : v.live a ≡ true
  pub each : (r : ℕ) → IsRegister r → IsHeld (v.at a r) (reg regs r)
  pub lines : (j : ℕ) → IsHeld (v.lines a j) (measured (v.forms j) regs)

abbrev pub AreBytes : (ℕ → ℕ) → Type 0
AreBytes bytes = (a : ℕ) → bytes a < 256
