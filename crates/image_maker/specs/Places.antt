-- Scaffold: the tables and lists of an assembler, while it goes over the lines.
use Rattle.std.specs.Prelude.{◌≡◌, ◌<◌, ℕ, List, MatchOption, take, length, min, Option, Some, None, true, count_by, option_map, pos, ◌-ℤ◌, slice_index}
use Rattle.std.specs.Ordering.{nat_cmp}
use Rattle.std.specs.BTreeMap.{BTreeMap, get}
use Rattle.scale_base.specs.declared.instruction.Instr.{Instr}
use Rattle.scale_base.specs.declared.instruction.Instr.TheVariants.{Branch, Jal}
use Rattle.scale_base.specs.Word.{Encodes}
use Rattle.image_maker.specs.declared.line.Line.{Line}
use Rattle.image_maker.specs.declared.line.Line.TheVariants.{Label, Op, BranchTo, JalTo}
use Rattle.image_maker.specs.Assembling.{LabelStandsAt, LineMeans, label_count, words_before, goes_to, IsTwice, NoneIs, IsLeastNumber, line_address}

-- the lesser of a number and what was the least before
abbrev pub lesser_number : Option ℕ → ℕ → ℕ
lesser_number None n = n
lesser_number (Some m) n = min m n

-- the same with a number that may not be there
abbrev pub lesser_line : Option ℕ → Option ℕ → Option ℕ
lesser_line before None = before
lesser_line before (Some n) = Some (lesser_number before n)

-- the least number that is so, if there is one
abbrev pub IsFirst : (ℕ → Type 0) → Option ℕ → Type 0
IsFirst P o = MatchOption o (NoneIs P) (IsLeastNumber P)

-- what the table may have for a label of which there are so many
abbrev pub HasPlace : List Line → ℕ → Option ℕ → ℕ → Type 0
HasPlace lines l place count = MatchOption place (count ≡ 0) (λ at. (0 < count) × LabelStandsAt lines l at)

-- the table has each label of the first k lines with an address where it stands, and no other
abbrev pub IsLabelTable : List Line → ℕ → BTreeMap ℕ ℕ → Type 0
IsLabelTable lines k table = (l : ℕ) → HasPlace lines l (get nat_cmp table l) (label_count (take k lines) l)

-- what is known of the first k lines
pub record ArePlaced (lines : List Line) (k : ℕ) (table : BTreeMap ℕ ℕ) (twice : Option ℕ) (at : ℕ) : Type 0 where
  pub address : at ≡ line_address lines k
  pub addresses : IsLabelTable lines k table
  pub first : IsFirst (IsTwice (take k lines)) twice

-- one of the first k lines goes to the label, which isn't there
abbrev pub IsMissingSoFar : List Line → ℕ → ℕ → Type 0
IsMissingSoFar lines k l = (0 < count_by (goes_to l) (take k lines)) × (label_count lines l ≡ 0)

-- the label that a line goes to, where it isn't there
abbrev pub IsMissingAt : List Line → Line → Option ℕ → Type 0
IsMissingAt lines line o =
    MatchOption o ((l : ℕ) → goes_to l line ≡ true → label_count lines l ≡ 0 → ⊥)
    (λ m. (goes_to m line ≡ true) × (label_count lines m ≡ 0) × ((l : ℕ) → goes_to l line ≡ true → l ≡ m))

-- ---- words

-- the instruction of a line at an address, with these addresses of the labels
abbrev pub line_instr : (ℕ → Option ℕ) → ℕ → Line → Option Instr
line_instr places at (Label l) = None
line_instr places at (Op i) = Some i
line_instr places at (BranchTo op rs1 rs2 l) = option_map (λ to. Branch op rs1 rs2 (pos to -ℤ pos at)) (places l)
line_instr places at (JalTo rd l) = option_map (λ to. Jal rd (pos to -ℤ pos at)) (places l)

-- the words of the first k lines
pub record AreWords (lines : List Line) (k : ℕ) (words : List ℕ) : Type 0 where
  pub count : length words ≡ words_before lines k
  pub each : (j : ℕ) (i : Instr) → j < k → LineMeans lines j i → Encodes (slice_index words (words_before lines j)) i
