-- Digits: a number that is divided, and another one that counts how often. `do digits[n++] = v % 10; while (v /= 10);` turns at most as often
-- as v has digits, so the product of v and a power of two to n never grows past what it was.
use Rattle.std.specs.Prelude.{◌≡◌, ℕ, ℤ, ◌+◌, ◌*◌, ◌^◌, ◌<◌, ◌≤◌, ◌⊎◌, true, List, Option, Some, None, is_some}
use Rattle.scale_base.specs.declared.instruction.ImmOp.TheVariants.{Addi, Srli, Srai}
use Rattle.scale_base.specs.declared.instruction.RegOp.TheVariants.{Add, Sub, Mulh, Mulhu, Div, Divu}
use Rattle.scale_base.specs.declared.instruction.Instr.{Instr}
use Rattle.scale_base.specs.declared.instruction.Instr.TheVariants.{Imm, Reg}
use Rattle.scale_base.specs.Arith.{unsigned}
use Rattle.scale_base.specs.State.{reg}
use Rattle.bound_laws.specs.Registers.{keeps}
use Rattle.bound_laws.specs.Values.{held, least_of, top_of, arc, Covers, meet_of, passed, IsRegister, Values}

-- what `value` holds, times 2 to the power of `bits` times what `count` holds, is below 2 to the power of `below`
pub record Dwindling : Type 0 where
  pub value : ℕ
  pub count : ℕ
  pub bits : ℕ
  pub below : ℕ

abbrev pub IsDwindling : Option Dwindling → List ℕ → Type 0
IsDwindling None regs = Unit {0}
IsDwindling (Some y) regs = reg regs y.value * 2 ^ (y.bits * reg regs y.count) < 2 ^ y.below

-- ---- what an instruction does to the number, and to the count

-- the register holds a word below 2^31, so that signed instructions take it for what unsigned ones do
abbrev pub IsLow : Values → ℕ → ℕ → Type 0
IsLow v a r = (is_some (held (v.at a) r) ≡ true) × (top_of (held (v.at a) r) < 2 ^ 31)

-- the register holds 0
abbrev pub IsZero : Values → ℕ → ℕ → Type 0
IsZero v a r = (is_some (held (v.at a) r) ≡ true) × (top_of (held (v.at a) r) ≡ 0)

-- the register holds at most 2^32 without so many bits, so that the high word of a product with it is so much shorter than the other number
abbrev pub IsShort : Values → ℕ → ℕ → ℕ → Type 0
IsShort v a r lost = (is_some (held (v.at a) r) ≡ true) × (top_of (held (v.at a) r) * 2 ^ lost ≤ 2 ^ 32)

-- What y's number is behind the instruction is at most what z's was before it, less so many bits.
pub data IsLess (v : Values) (i : Instr) (a : ℕ) (z y : Dwindling) (lost : ℕ) : Type 0 where
  left : keeps y.value i ≡ true → z.value ≡ y.value → lost ≡ 0 → IsLess v i a z y lost
  copied : (imm : ℤ) → i ≡ Imm Addi y.value z.value imm → unsigned imm ≡ 0 → lost ≡ 0 → IsLess v i a z y lost
  shifted : (imm : ℤ) → i ≡ Imm Srli y.value z.value imm → unsigned imm ≡ lost → lost < 32 → IsLess v i a z y lost
  shifted_low : (imm : ℤ) → i ≡ Imm Srai y.value z.value imm → unsigned imm ≡ lost → lost < 32 → IsLow v a z.value → IsLess v i a z y lost
  divided : (divisor : ℕ) → i ≡ Reg Divu y.value z.value divisor → 2 ^ lost ≤ least_of (held (v.at a) divisor) → IsLess v i a z y lost
  divided_low : (divisor : ℕ) → i ≡ Reg Div y.value z.value divisor → IsLow v a z.value → IsLow v a divisor →
      2 ^ lost ≤ least_of (held (v.at a) divisor) → IsLess v i a z y lost
  multiplied : (other : ℕ) → i ≡ Reg Mulhu y.value z.value other → IsShort v a other lost → IsLess v i a z y lost
  multiplied_by : (other : ℕ) → i ≡ Reg Mulhu y.value other z.value → IsShort v a other lost → IsLess v i a z y lost
  multiplied_low : (other : ℕ) → i ≡ Reg Mulh y.value z.value other → IsLow v a z.value → IsLow v a other → IsShort v a other lost →
      IsLess v i a z y lost
  multiplied_by_low : (other : ℕ) → i ≡ Reg Mulh y.value other z.value → IsLow v a z.value → IsLow v a other → IsShort v a other lost →
      IsLess v i a z y lost
  -- the sum with 0 and the difference, as signed quotients are made of products
  added : (other : ℕ) → i ≡ Reg Add y.value z.value other → IsZero v a other → lost ≡ 0 → IsLess v i a z y lost
  added_to : (other : ℕ) → i ≡ Reg Add y.value other z.value → IsZero v a other → lost ≡ 0 → IsLess v i a z y lost
  subtracted : (other : ℕ) → i ≡ Reg Sub y.value z.value other → IsZero v a other → lost ≡ 0 → IsLess v i a z y lost

-- What y's count is behind the instruction is at most so much more than what z's was before it.
pub data IsCounted (v : Values) (i : Instr) (a : ℕ) (z y : Dwindling) (more : ℕ) : Type 0 where
  left : keeps y.count i ≡ true → z.count ≡ y.count → more ≡ 0 → IsCounted v i a z y more
  raised : (imm : ℤ) → i ≡ Imm Addi y.count z.count imm → unsigned imm ≡ more → IsCounted v i a z y more

-- ---- over an edge of an instruction that is no call, by what stands before it

-- The number and the count are so by their intervals, or by another such pair before the instruction.
pub data IsDwindlingBy (v : Values) (before : ℕ → Option Dwindling) (i : Instr) (a b : ℕ) (y : Dwindling) : Type 0 where
  known : (bits : ℕ) → is_some (passed i a b (v.at a) y.value) ≡ true → is_some (passed i a b (v.at a) y.count) ≡ true →
      top_of (passed i a b (v.at a) y.value) < 2 ^ bits → bits + y.bits * top_of (passed i a b (v.at a) y.count) ≤ y.below →
      IsDwindlingBy v before i a b y
  handed : (j : ℕ) (z : Dwindling) (lost more : ℕ) → before j ≡ Some z → z.bits ≡ y.bits → IsLess v i a z y lost →
      IsCounted v i a z y more → z.below + y.bits * more ≤ y.below + lost → IsDwindlingBy v before i a b y

pub record IsDwindlingOver (v : Values) (before : ℕ → Option Dwindling) (i : Instr) (a b : ℕ) (y : Dwindling) : Type 0 where
  pub value : IsRegister y.value
  pub count : IsRegister y.count
  pub reason : IsDwindlingBy v before i a b y

abbrev pub IsDwindlingBehind : Values → (ℕ → Option Dwindling) → Instr → ℕ → ℕ → Option Dwindling → Type 0
IsDwindlingBehind v before i a b None = Unit {0}
IsDwindlingBehind v before i a b (Some y) = IsDwindlingOver v before i a b y

-- A register's interval at b: it counts how often a number was divided that is at least 2 to the power of so many bits on the way.
pub record IsLimitedBy (v : Values) (before : ℕ → Option Dwindling) (i : Instr) (a b r : ℕ) : Type 0 where
  pub number : ℕ
  pub pair : Dwindling
  pub pair_is : before number ≡ Some pair
  pub count : pair.count ≡ r
  pub count_left : keeps r i ≡ true
  pub value_left : keeps pair.value i ≡ true
  pub known : is_some (held (v.at a) r) ≡ true
  pub bits : ℕ
  pub least : 2 ^ bits ≤ least_of (held (passed i a b (v.at a)) pair.value)
  pub most : ℕ
  pub enough : pair.below ≤ bits + pair.bits * (most + 1)
  pub covers : Covers (v.at b r) (Some (arc 0 most)) ⊎ Covers (v.at b r) (meet_of (Some (arc 0 most)) (passed i a b (v.at a) r))
