-- The words of lines of assembly.
use Rattle.std.specs.Prelude.{◌≡◌, ◌<◌, ◌≤◌, ℕ, ◌+◌, ◌*◌, ◌==◌, List, length, take, Bool, true, false, count_by, slice_get, slice_index, pos, ◌-ℤ◌, MatchOption, Some}
use Rattle.scale_base.specs.declared.instruction.Instr.{Instr}
use Rattle.scale_base.specs.declared.instruction.Instr.TheVariants.{Branch, Jal}
use Rattle.scale_base.specs.Word.{Encodes, FieldsInRange}
use Rattle.image_maker.specs.declared.line.Line.{Line}
use Rattle.image_maker.specs.declared.line.Line.TheVariants.{Label, Op, BranchTo, JalTo}
use Rattle.image_maker.specs.declared.line.AsmError.{AsmError}
use Rattle.image_maker.specs.declared.line.AsmError.TheVariants.{NoLabel, TwoLabels, Unfit, Memory}

-- ---- labels

-- the line is the label
abbrev pub is_label : ℕ → Line → Bool
is_label l (Label m) = l == m
is_label l (Op i) = false
is_label l (BranchTo op rs1 rs2 m) = false
is_label l (JalTo rd m) = false

-- the line has a word: all but labels have one
abbrev pub has_word : Line → Bool
has_word (Label m) = false
has_word (Op i) = true
has_word (BranchTo op rs1 rs2 m) = true
has_word (JalTo rd m) = true

-- the line goes to the label
abbrev pub goes_to : ℕ → Line → Bool
goes_to l (Label m) = false
goes_to l (Op i) = false
goes_to l (BranchTo op rs1 rs2 m) = l == m
goes_to l (JalTo rd m) = l == m

-- how many of the first k lines have a word
abbrev pub words_before : List Line → ℕ → ℕ
words_before lines k = count_by has_word (take k lines)

-- The address of line k. Each word has four bytes, and the first stands at 0x10000. A label stands at the word that follows.
abbrev pub line_address : List Line → ℕ → ℕ
line_address lines k = 0x00010000 + 4 * words_before lines k

-- how often the label stands
abbrev pub label_count : List Line → ℕ → ℕ
label_count lines l = count_by (is_label l) lines

-- the label stands at the address
pub record LabelStandsAt (lines : List Line) (l at : ℕ) : Type 0 where
  pub line : ℕ
  pub here : slice_get lines line ≡ Some (Label l)
  pub place : at ≡ line_address lines line

-- ---- instructions

-- A line at an address means the instruction. A branch or a jump has the distance to its label.
abbrev pub Means : List Line → ℕ → Line → Instr → Type 0
Means lines at (Label l) i = ⊥
Means lines at (Op j) i = i ≡ j
Means lines at (BranchTo op rs1 rs2 l) i = (to : ℕ) × LabelStandsAt lines l to × (i ≡ Branch op rs1 rs2 (pos to -ℤ pos at))
Means lines at (JalTo rd l) i = (to : ℕ) × LabelStandsAt lines l to × (i ≡ Jal rd (pos to -ℤ pos at))

-- line k means the instruction
abbrev pub LineMeans : List Line → ℕ → Instr → Type 0
LineMeans lines k i = MatchOption (slice_get lines k) ⊥ (λ line. Means lines (line_address lines k) line i)

-- ---- what may be wrong

-- the label stands twice
abbrev pub IsTwice : List Line → ℕ → Type 0
IsTwice lines l = 1 < label_count lines l

-- some line goes to the label, which isn't there
abbrev pub IsMissing : List Line → ℕ → Type 0
IsMissing lines l = (0 < count_by (goes_to l) lines) × (label_count lines l ≡ 0)

-- a field of the instruction of line k is out of its range
abbrev pub IsUnfit : List Line → ℕ → Type 0
IsUnfit lines k = (i : Instr) × LineMeans lines k i × (FieldsInRange i → ⊥)

-- no number is so
abbrev pub NoneIs : (ℕ → Type 0) → Type 0
NoneIs P = (n : ℕ) → P n → ⊥

-- the number is the least that is so
pub record IsLeastNumber (P : ℕ → Type 0) (n : ℕ) : Type 0 where
  pub is_so : P n
  pub least : (m : ℕ) → P m → n ≤ m

-- ---- the answer

-- each label stands once, and each that a line goes to is there
pub record HasLabels (lines : List Line) : Type 0 where
  pub once : NoneIs (IsTwice lines)
  pub there : NoneIs (IsMissing lines)

-- the words are those of the lines' instructions, in their order
pub record IsAssembled (lines : List Line) (words : List ℕ) : Type 0 where
  pub labels : HasLabels lines
  pub count : length words ≡ words_before lines (length lines)
  pub each : (k : ℕ) (i : Instr) → LineMeans lines k i → Encodes (slice_index words (words_before lines k)) i

-- why there are no words: first a label that stands twice, then one that isn't there, then a line without a word
abbrev pub IsCause : List Line → AsmError → Type 0
IsCause lines (TwoLabels l) = IsLeastNumber (IsTwice lines) l
IsCause lines (NoLabel l) = NoneIs (IsTwice lines) × IsLeastNumber (IsMissing lines) l
IsCause lines (Unfit k) = HasLabels lines × IsLeastNumber (IsUnfit lines) k
IsCause lines Memory = Unit {0}

-- nothing is wrong with the lines: only memory may be wanted
abbrev pub Assemble : List Line → Type 0
Assemble lines = (error : AsmError) → IsCause lines error → error ≡ Memory
