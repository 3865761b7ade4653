-- Sums of two registers that an instruction makes of others: by a copy, by a sum with a number, or by a sum of which the other register is
-- a part. And a difference of two registers that an instruction writes.
use Rattle.std.specs.Prelude.{◌≡◌, ℕ, ℤ, ◌+◌, ◌-◌, ◌*◌, ◌%◌, ◌^◌, ◌⊎◌, ◌==◌, true, Option, is_some, if◌then◌else◌}
use Rattle.scale_base.specs.declared.instruction.ImmOp.TheVariants.{Addi}
use Rattle.scale_base.specs.declared.instruction.RegOp.TheVariants.{Add, Sub}
use Rattle.scale_base.specs.declared.instruction.Instr.{Instr}
use Rattle.scale_base.specs.declared.instruction.Instr.TheVariants.{Imm, Reg}
use Rattle.scale_base.specs.Arith.{unsigned}
use Rattle.bound_laws.specs.Registers.{Measure, keeps}
use Rattle.bound_laws.specs.Values.{Arc, Values, Covers, held, line_of, sum_with}

-- the same sum, the other way round
abbrev pub turned : Measure → Measure
turned m = record { register = m.other; factor = m.other_factor; other = m.register; other_factor = m.factor; shift = m.shift }

-- the same sum with so much more
abbrev pub moved : Measure → ℕ → Measure
moved m more = record {
  register = m.register;
  factor = m.factor;
  other = m.other;
  other_factor = m.other_factor;
  shift = (m.shift + more) % 2 ^ 32;
}

-- the same sum of another first register
abbrev pub taken_for : Measure → ℕ → Measure
taken_for m r = record { register = r; factor = m.factor; other = m.other; other_factor = m.other_factor; shift = m.shift }

-- the same sum with the first register's factor on both
abbrev pub spread : Measure → ℕ → Measure
spread m r = record {
  register = r;
  factor = m.factor;
  other = m.other;
  other_factor = (m.factor + m.other_factor) % 2 ^ 32;
  shift = m.shift;
}

-- both factors in one, where both registers are the same
abbrev pub joined : Measure → Measure
joined m =
    if m.register == m.other
    then record {
      register = m.register;
      factor = (m.factor + m.other_factor) % 2 ^ 32;
      other = m.other;
      other_factor = 0;
      shift = m.shift;
    }
    else m

-- what a sum, whose first register the instruction writes and whose other one it leaves, is of the registers before it
pub data IsMade (m : Measure) (i : Instr) (n : Measure) : Type 0 where
  summed : (rs : ℕ) (imm : ℤ) → i ≡ Imm Addi m.register rs imm → n ≡ joined (moved (taken_for m rs) (m.factor * unsigned imm)) →
      IsMade m i n
  added : (rs : ℕ) → i ≡ Reg Add m.register m.other rs → n ≡ spread m rs → IsMade m i n
  added_to : (rs : ℕ) → i ≡ Reg Add m.register rs m.other → n ≡ spread m rs → IsMade m i n

-- one of a sum's two forms
abbrev pub IsSide : Measure → Measure → Type 0
IsSide m f = (m ≡ f) ⊎ (m ≡ turned f)

-- an interval of a sum before the instruction, by a line of the sum but for a number
abbrev pub IsSumBy : Values → ℕ → Measure → Option Arc → Type 0
IsSumBy v a n interval =
    (k : ℕ) × (form : Measure) × (more : ℕ) × IsSide form (v.forms k) × (n ≡ moved form more)
    × Covers interval (sum_with (v.lines a k) more)

-- a line's interval at b: by the sum that the instruction makes it of, or by a line of that but for a number
pub record IsLineMade (v : Values) (i : Instr) (a b j : ℕ) : Type 0 where
  pub side : Measure
  pub is_side : IsSide side (v.forms j)
  pub other : keeps side.other i ≡ true
  pub before : Measure
  pub made : IsMade side i before
  pub covers : Covers (v.lines b j) (line_of before (v.at a)) ⊎ IsSumBy v a before (v.lines b j)

-- the difference of two registers
abbrev pub difference : ℕ → ℕ → Measure
difference first second = record { register = first; factor = 1; other = second; other_factor = 2 ^ 32 - 1; shift = 0 }

-- a register's interval at b: by a line, but for a number, of the difference that the instruction writes, where the second number is a word
pub record IsSubtracted (v : Values) (i : Instr) (a b r : ℕ) : Type 0 where
  pub first : ℕ
  pub second : ℕ
  pub subtracts : i ≡ Reg Sub r first second
  pub word : is_some (held (v.at a) second) ≡ true
  pub covers : IsSumBy v a (difference first second) (v.at b r)
