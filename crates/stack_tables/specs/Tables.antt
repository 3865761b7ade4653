-- Scaffold: a table of stacks as what `stack_laws` calls stacks: by address what stands beside it in the list of nodes, by register what stands in the
-- row, and by number of a word what stands in the row of words.
use Rattle.std.specs.Prelude.{◌≡◌, ℕ, ◌+◌, ◌-◌, ◌*◌, ◌^◌, ◌<◌, ◌≤◌, ◌⊎◌, ◌&&◌, nat_le, nat_lt, find, Bool, false, List, [], length, slice_get, slice_index, map, option_map, option_and_then, Option, Some, None, Ok, Vec}
use Rattle.std.specs.List.{All}
use Rattle.std.specs.declared.alloc.Global.{Global}
use Rattle.scale_base.specs.declared.instruction.Instr.{Instr}
use Rattle.scale_base.specs.Image.{image_of}
use Rattle.cost_theory.specs.Reached.{Code}
use Rattle.code_text.specs.Text.{Text, text_of}
use Rattle.flow_graph.specs.FlowGraph.{IsGraphOf}
use Rattle.bound_laws.specs.Registers.{Measure}
use Rattle.bound_laws.specs.Values.{Values, Arc, IsRegister, opposite_of}
use Rattle.stack_laws.specs.Cells as cells
use Rattle.stack_laws.specs.Stacks as stacks
use Rattle.stack_laws.specs.Stacks.{Stacks}
use Rattle.stack_laws.specs.Stacks.Name.{of_begin, of_word}
use Rattle.stack_laws.specs.Telling as telling
use Rattle.stack_laws.specs.Digits as digits
use Rattle.wrapped_intervals.specs.Small.{row, IsKept, IsKeptOr, IsFoundOr}
use Rattle.value_checks.specs.Tables.{beside, or_other, flag, values_of, AreSized}
use Rattle.stack_tables.specs.declared.tables.Cell.{Cell}
use Rattle.stack_tables.specs.declared.tables.FixedPart.{FixedPart}
use Rattle.stack_tables.specs.declared.tables.Told.{Told}
use Rattle.stack_tables.specs.declared.tables.Dwindling.{Dwindling}
use Rattle.stack_tables.specs.declared.tables.Name.{Name}
use Rattle.stack_tables.specs.declared.tables.Name.TheVariants.{OfBegin, OfWord}
use Rattle.stack_tables.specs.declared.tables.Word.{Word}
use Rattle.stack_tables.specs.declared.tables.StackTable.{StackTable}
use Rattle.stack_tables.specs.declared.memory.Storing.{Storing}
use Rattle.stack_tables.specs.declared.claims.StackClaim.{StackClaim}

abbrev pub name_view : Name → stacks.Name
name_view (OfBegin r more) = of_begin r more
name_view (OfWord k more) = of_word k more

abbrev pub named : Option Name → Option stacks.Name
named name = option_map name_view name

-- what stands in a row of names, by register
abbrev pub name_in : List (Option Name) → ℕ → Option Name
name_in names r = option_and_then (λ n. n) (slice_get names r)

-- what is known of a word, and nothing behind the last one
abbrev pub arc_of : Option Word → Option Arc
arc_of None = None
arc_of (Some x) = x.arc

abbrev pub name_of_word : Option Word → Option stacks.Name
name_of_word None = None
name_of_word (Some x) = named x.name

abbrev pub span_of_word : Option Word → Option Arc
span_of_word None = None
span_of_word (Some x) = x.span

abbrev pub rows_view : List (Vec Word Global) → List (List Word)
rows_view rows = map (λ (words : Vec Word Global). words.items) rows

abbrev pub words_at : Code → StackTable → ℕ → List Word
words_at code stack a = beside [] code.nodes (rows_view stack.words.items) a

abbrev pub cell_view : Cell → cells.Cell
cell_view c = record { at = c.at; width = c.width; values = c.values }

abbrev pub told_view : Told → telling.Told
told_view y = record { teller = y.teller; zero = y.zero; about = y.about; arc = y.arc }

abbrev pub told_rows : List (Vec Told Global) → List (List Told)
told_rows rows = map (λ (row : Vec Told Global). row.items) rows

-- what a row tells, by number
abbrev pub told_in : List Told → ℕ → Option telling.Told
told_in row j = option_map told_view (slice_get row j)

abbrev pub told_at : Code → StackTable → ℕ → List Told
told_at code stack a = beside [] code.nodes (told_rows stack.told.items) a

abbrev pub dwindling_view : Dwindling → digits.Dwindling
dwindling_view y = record { value = y.value; count = y.count; bits = y.bits; below = y.below }

abbrev pub dwindling_rows : List (Vec Dwindling Global) → List (List Dwindling)
dwindling_rows rows = map (λ (row : Vec Dwindling Global). row.items) rows

-- what is divided in a row, by number
abbrev pub dwindling_in : List Dwindling → ℕ → Option digits.Dwindling
dwindling_in row j = option_map dwindling_view (slice_get row j)

abbrev pub dwindling_at : Code → StackTable → ℕ → List Dwindling
dwindling_at code stack a = beside [] code.nodes (dwindling_rows stack.dwindling.items) a

-- whether a part has an address, and its byte there
abbrev pub has_address : ℕ → FixedPart → Bool
has_address at p = nat_le p.from at && nat_lt at (p.from + length p.bytes.items)

abbrev pub byte_of : ℕ → Option FixedPart → Option ℕ
byte_of at None = None
byte_of at (Some p) = slice_get p.bytes.items (at - p.from)

-- the byte at an address, by the first part that has it
abbrev pub fixed_in : List FixedPart → ℕ → Option ℕ
fixed_in parts at = byte_of at (find (has_address at) parts)

abbrev pub stacks_of : Code → StackTable → Stacks
stacks_of code stack = record {
  name = λ a r. named (name_in (beside [] code.nodes stack.names.items a) r);
  offset = λ k. opposite_of (4 * (k + 1));
  word = λ a k. arc_of (slice_get (words_at code stack a) k);
  word_name = λ a k. name_of_word (slice_get (words_at code stack a) k);
  span = λ a r. row (beside [] code.nodes stack.spans.items a) r;
  word_span = λ a k. span_of_word (slice_get (words_at code stack a) k);
  begins = λ f. row stack.begins.items f;
  restored = λ f r. flag (or_other [] (slice_get stack.restored.items f)) r;
  place = λ k. stack.place;
  spared = λ k a. beside false code.nodes stack.spared.items a;
  cell = λ j. option_map cell_view (slice_get stack.cells.items j);
  told = λ a j. told_in (told_at code stack a) j;
  dwindling = λ a j. dwindling_in (dwindling_at code stack a) j;
  areas = λ k. slice_get stack.areas.items k;
  fixed = λ at. fixed_in stack.fixed.items at;
  doubtful = λ a. beside false code.nodes stack.doubtful.items a;
  kept = λ f k. flag (or_other [] (slice_get stack.kept.items f)) k;
}

-- the intervals of a word are short enough to be kept
pub record IsWordKept (x : Word) : Type 0 where
  pub arc : IsKeptOr x.arc
  pub span : IsKeptOr x.span

-- and a row of words has at most 64
pub record IsRowOfWords (words : List Word) : Type 0 where
  pub few : length words ≤ 64
  pub kept : All IsWordKept words

abbrev pub IsRowOf : Vec Word Global → Type 0
IsRowOf words = IsRowOfWords words.items

abbrev pub HasKeptValues : Cell → Type 0
HasKeptValues c = IsKept c.values

-- what is told is of registers from x1 on, and its interval short enough to be kept
pub record IsToldKept (y : Told) : Type 0 where
  pub teller : IsRegister y.teller
  pub about : IsRegister y.about
  pub arc : IsKept y.arc

-- and a row tells at most so much
pub record IsRowOfTold (row : List Told) : Type 0 where
  pub few : length row ≤ 8
  pub kept : All IsToldKept row

abbrev pub IsToldRow : Vec Told Global → Type 0
IsToldRow row = IsRowOfTold row.items

-- what is divided is of registers from x1 on, by fewer than 64 bits
pub record IsDwindlingKept (y : Dwindling) : Type 0 where
  pub value : IsRegister y.value
  pub count : IsRegister y.count
  pub bits : y.bits < 64
  pub below : y.below < 64

-- and a row has at most so many
pub record IsRowOfDwindling (row : List Dwindling) : Type 0 where
  pub few : length row ≤ 4
  pub kept : All IsDwindlingKept row

abbrev pub IsDwindlingRow : Vec Dwindling Global → Type 0
IsDwindlingRow row = IsRowOfDwindling row.items

-- a table with a row for each node and each function, all of them short enough to be kept
pub record AreStacksSized (code : Code) (stack : StackTable) : Type 0 where
  pub names : length stack.names.items ≡ length code.nodes
  pub spans : length stack.spans.items ≡ length code.nodes
  pub words : length stack.words.items ≡ length code.nodes
  pub spared : length stack.spared.items ≡ length code.nodes
  pub begins : length stack.begins.items ≡ length code.functions
  pub restored : length stack.restored.items ≡ length code.functions
  pub spans_kept : All (All IsKeptOr) stack.spans.items
  pub words_kept : All IsRowOf stack.words.items
  pub begins_kept : All IsKeptOr stack.begins.items
  pub place_kept : IsKeptOr stack.place
  pub cells_few : length stack.cells.items ≤ 1024
  pub cells_kept : All HasKeptValues stack.cells.items
  pub told : length stack.told.items ≡ length code.nodes
  pub told_kept : All IsToldRow stack.told.items
  pub dwindling : length stack.dwindling.items ≡ length code.nodes
  pub dwindling_kept : All IsDwindlingRow stack.dwindling.items
  pub areas_few : length stack.areas.items ≤ 64
  pub areas_kept : All IsKept stack.areas.items
  pub fixed_few : length stack.fixed.items ≤ 16
  pub doubtful : length stack.doubtful.items ≡ length code.nodes
  pub kept : length stack.kept.items ≡ length code.functions

-- two tables with their numbers for a program
pub record IsStackClaim (c : StackClaim) : Type 0 where
  pub image : image_of c.view.now.file ≡ Ok c.view.now
  pub graph_is : IsGraphOf (text_of c.view.now) c.graph.now
  pub sized : AreSized c.graph.now.code c.table.now
  pub stacks : AreStacksSized c.graph.now.code c.stack.now

abbrev pub claim_text : StackClaim → Text
claim_text c = text_of c.view.now

abbrev pub claim_values : StackClaim → Values
claim_values c = values_of c.graph.now.code c.table.now

abbrev pub claim_stacks : StackClaim → Stacks
claim_stacks c = stacks_of c.graph.now.code c.stack.now

-- the same, which don't unfold by themselves
unfoldable pub text_in : StackClaim → Text
text_in c = claim_text c

unfoldable pub values_in : StackClaim → Values
values_in c = claim_values c

unfoldable pub stacks_in : StackClaim → Stacks
stacks_in c = claim_stacks c

-- the address of a node, by its number
unfoldable pub address : StackClaim → ℕ → ℕ
address c k = slice_index c.graph.now.code.nodes k

-- nothing is known of a word
pub record IsUnknown (w : Stacks) (a k : ℕ) : Type 0 where
  pub arc : w.word a k ≡ None
  pub name : w.word_name a k ≡ None
  pub span : w.word_span a k ≡ None

-- a line at an address is of this form, and has this interval
abbrev pub IsLineOf : Values → ℕ → Measure → Arc → Type 0
IsLineOf v a m arc = (j : ℕ) × (v.forms j ≡ m) × (v.lines a j ≡ Some arc)

-- ---- what is stored

-- the intervals of what is stored are as they are found
pub record IsStoring (s : Storing) : Type 0 where
  pub place : IsFoundOr s.place
  pub width : s.width ≤ 2 ^ 32
  pub numbers : IsFoundOr s.numbers

-- it misses a cell, or is one of its numbers
abbrev pub IsKeptBy : Option Storing → cells.Cell → Type 0
IsKeptBy None c = Unit {0}
IsKeptBy (Some s) c = cells.IsBeside s.place s.width c ⊎ cells.IsStoredInto s.place s.width s.numbers c

-- the instruction at a stores this at most
abbrev pub IsStoredBy : Values → ℕ → Instr → Option Storing → Type 0
IsStoredBy v a i s = (c : cells.Cell) → IsKeptBy s c → stacks.IsCellKept v a i (Some c)
