-- Scaffold: a table of values as what `bound_laws` calls values: by address what stands beside it in the list of nodes, by register what stands in the
-- row, and by number of a form what stands in the row of lines.
use Rattle.std.specs.Prelude.{◌≡◌, ℕ, ◌≤◌, Bool, false, List, [], ◌∷◌, length, map, slice_get, option_map, nat_eq, ◌==◌, if◌then◌else◌, Option, Some, None, Vec}
use Rattle.std.specs.List.{All, find}
use Rattle.std.specs.declared.alloc.Global.{Global}
use Rattle.cost_theory.specs.Reached.{Code, owner_of}
use Rattle.bound_laws.specs.Registers as registers
use Rattle.bound_laws.specs.Values.{Values, Arc, IsRegister}
use Rattle.wrapped_intervals.specs.Small.{row, measure_view, IsKept, IsKeptOr}
use Rattle.wrapped_intervals.specs.declared.lines.Measure.{Measure}
use Rattle.value_checks.specs.declared.tables.Line.{Line}
use Rattle.value_checks.specs.declared.tables.ValueTable.{ValueTable}

-- what stands beside an address, and something else at what is none
abbrev pub beside : {A : Type 0} → A → List ℕ → List A → ℕ → A
beside other [] xs v = other
beside other (u ∷ us) [] v = other
beside other (u ∷ us) (x ∷ xs) v = if nat_eq u v then x else beside other us xs v

-- what stands at a number, and something else behind the last one
abbrev pub or_other : {A : Type 0} → A → Option A → A
or_other other None = other
or_other other (Some x) = x

abbrev pub flag : List Bool → ℕ → Bool
flag flags r = or_other false (slice_get flags r)

-- what stands at the numbers of nodes
abbrev pub row_at : ValueTable → ℕ → List (Option Arc)
row_at table k = or_other [] (slice_get table.rows.items k)

abbrev pub exit_at : ValueTable → ℕ → List (Option Arc)
exit_at table f = or_other [] (slice_get table.exits.items f)

abbrev pub live_at : ValueTable → ℕ → Bool
live_at table k = or_other false (slice_get table.live.items k)

-- a form that stands for those behind the last one, of which nothing is known
abbrev pub no_form : registers.Measure
no_form = record { register = 1; factor = 0; other = 1; other_factor = 0; shift = 0 }

abbrev pub form_in : List Measure → ℕ → registers.Measure
form_in forms j = or_other no_form (option_map measure_view (slice_get forms j))

-- the interval that a row gives for a form; where it has none, nothing is known
abbrev pub line_in : List Line → ℕ → Option Arc
line_in lines j = option_map (λ (x : Line). x.arc) (find (λ (x : Line). x.form == j) lines)

abbrev pub line_rows : List (Vec Line Global) → List (List Line)
line_rows rows = map (λ (lines : Vec Line Global). lines.items) rows

abbrev pub lines_at : Code → ValueTable → ℕ → List Line
lines_at code table a = beside [] code.nodes (line_rows table.lines.items) a

-- both registers of a form are of x1 to x31
pub record IsForm (m : Measure) : Type 0 where
  pub register : IsRegister m.register
  pub other : IsRegister m.other

-- a row of at most 16 lines, whose intervals are short enough to be kept
abbrev pub IsLineKept : Line → Type 0
IsLineKept x = IsKept x.arc

pub record IsRowOfLines (lines : List Line) : Type 0 where
  pub few : length lines ≤ 16
  pub kept : All IsLineKept lines

abbrev pub IsRowOf : Vec Line Global → Type 0
IsRowOf lines = IsRowOfLines lines.items

-- a table with a row for each node and each function, all of them short enough to be kept
pub record AreSized (code : Code) (table : ValueTable) : Type 0 where
  pub live : length table.live.items ≡ length code.nodes
  pub rows : length table.rows.items ≡ length code.nodes
  pub exits : length table.exits.items ≡ length code.functions
  pub lines : length table.lines.items ≡ length code.nodes
  pub rows_kept : All (All IsKeptOr) table.rows.items
  pub exits_kept : All (All IsKeptOr) table.exits.items
  pub forms_kept : All IsForm table.forms.items
  pub lines_kept : All IsRowOf table.lines.items

abbrev pub values_of : Code → ValueTable → Values
values_of code table = record {
  live = beside false code.nodes table.live.items;
  at = λ a. row (beside [] code.nodes table.rows.items a);
  exit = λ f. row (exit_at table f);
  forms = λ j. form_in table.forms.items j;
  lines = λ a j. line_in (lines_at code table a) j;
  function = owner_of code;
}
