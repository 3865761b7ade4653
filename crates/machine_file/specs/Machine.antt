-- The machine file: a TOML document (toml.io, version 1.0) whose values are integers, but for the costs of switches in version 2, which are
-- arrays of arrays of integers. The first refusal decides, in this order: the text; the version; the keys of the file, first the missing and
-- then the unknown; its values; the costs; each level, from the slowest on; in version 2 the shape of the times of switches, then that of their
-- energies; the order of the levels. Of the costs and of each level the missing keys come first, then the unknown, then the values.
use Rattle.std.specs.Prelude.{codes, ℕ, ◌+◌, ◌-◌, ◌^◌, ◌==◌, ◌&&◌, nat_le, nat_lt, Bool, if◌then◌else◌, List, [], ◌∷◌, ◌++◌, length, slice_index, slice_index_or, Option, Some, None, option_and_then, Result, Ok, Err}
use Rattle.std.specs.List.{list_all, range_with_len}
use Rattle.std.specs.Fmt.{decimal}
use Rattle.toml.specs.Data.{Members, get_member, as_table}
use Rattle.scale_base.specs.declared.refusal.Refusal.{Refusal}
use Rattle.scale_base.specs.declared.refusal.Refusal.TheVariants.{MachineText, MachineKey, MachineValue, LevelOrder}
use Rattle.power_model.specs.declared.power.Level.{Level}
use Rattle.power_model.specs.declared.power.Costs.{Costs}
use Rattle.power_model.specs.Numbers.{PowerModel}
use Rattle.power_model.specs.declared.power.PairTable.{PairTable}
use Rattle.power_model.specs.Pairs.{pairs_by, uniform}
use Rattle.table_keys.specs.Keys.{document_of, first_missing, number_at, number_rows_of, tables_of, or_refuse, none_or_refuse, checked_keys, ◌>>=◌}

-- the keys, in their order
abbrev pub top_keys : List (List ℕ)
top_keys =
    codes "version" ∷ codes "deadline" ∷ codes "steps" ∷ codes "min_gain" ∷ codes "switch_time" ∷ codes "switch_energy"
    ∷ codes "cost" ∷ codes "level" ∷ []

abbrev pub cost_keys : List (List ℕ)
cost_keys =
    codes "alu" ∷ codes "load" ∷ codes "store" ∷ codes "taken" ∷ codes "untaken" ∷ codes "jump" ∷ codes "mul" ∷ codes "div"
    ∷ codes "ecall" ∷ codes "fence" ∷ []

abbrev pub level_keys : List (List ℕ)
level_keys = codes "period" ∷ codes "energy" ∷ []

-- what stands before a key in its name
abbrev pub in_file : List ℕ
in_file = []

abbrev pub in_cost : List ℕ
in_cost = codes "cost."

abbrev pub in_level : ℕ → List ℕ
in_level i = codes "level." ++ decimal i ++ codes "."

-- a key that is missing or unknown, and one whose value has another type or range
abbrev pub bad_key : List ℕ → List ℕ → Refusal
bad_key path key = MachineKey (path ++ key)

abbrev pub bad_value : List ℕ → List ℕ → Refusal
bad_value path key = MachineValue (path ++ key)

-- the number at a key, from low to high
abbrev pub number : List ℕ → Members → ℕ → ℕ → List ℕ → Result ℕ Refusal
number path table low high key = or_refuse (bad_value path key) (number_at low high key table)

-- the version is there and is 1 or 2
abbrev pub version_of : Members → Result ℕ Refusal
version_of table = do
  _ ← none_or_refuse (bad_key in_file) (first_missing (codes "version" ∷ []) table)
  number in_file table 1 2 (codes "version")

-- what a file says of the time or of the energy of switches: one number for all, or rows of numbers
pub data SwitchCost : Type 0 where
  same : ℕ → SwitchCost
  by_pair : List (List ℕ) → SwitchCost

-- version 1 has one number
abbrev pub same_cost : Members → List ℕ → Result SwitchCost Refusal
same_cost table key = number in_file table 0 (2 ^ 32 - 1) key >>= λ n. Ok (same n)

-- version 2 has an array of arrays of numbers
abbrev pub pair_costs : Members → List ℕ → Result SwitchCost Refusal
pair_costs table key =
    or_refuse (bad_value in_file key) (option_and_then (number_rows_of 0 (2 ^ 32 - 1)) (get_member key table)) >>= λ rows. Ok (by_pair rows)

abbrev pub switch_cost : ℕ → Members → List ℕ → Result SwitchCost Refusal
switch_cost version table key = if version == 1 then same_cost table key else pair_costs table key

-- the number in a row and a column, 0 where there is none
abbrev pub cell : List (List ℕ) → ℕ → ℕ → ℕ
cell rows i l = slice_index (slice_index_or rows i []) l

-- one row per level, in it one number per level, and zeros on the diagonal
abbrev pub has_shape : ℕ → List (List ℕ) → Bool
has_shape n rows =
    (length rows == n) && list_all (λ row. length row == n) rows && list_all (λ i. cell rows i i == 0) (range_with_len 0 n)

-- the numbers by pair of so many levels: those of the rows, and 0 in each row and column behind the last level
abbrev pub pair_table : List ℕ → ℕ → SwitchCost → Result PairTable Refusal
pair_table key n (same cost) = Ok (uniform cost)
pair_table key n (by_pair rows) = if has_shape n rows then Ok (pairs_by (cell rows)) else Err (bad_value in_file key)

-- the table of the costs
abbrev pub cost_table : Members → Result Members Refusal
cost_table table = or_refuse (bad_value in_file (codes "cost")) (option_and_then as_table (get_member (codes "cost") table))

-- the tables of the levels, 1 to 8 of them
abbrev pub few_tables : List Members → Option (List Members)
few_tables tables = if nat_le 1 (length tables) && nat_le (length tables) 8 then Some tables else None

abbrev pub level_tables : Members → Result (List Members) Refusal
level_tables table =
    or_refuse (bad_value in_file (codes "level")) (option_and_then few_tables (option_and_then tables_of (get_member (codes "level") table)))

-- the costs
abbrev pub cost_at_key : Members → List ℕ → Result ℕ Refusal
cost_at_key table key = number in_cost table 1 65535 key

unfoldable pub costs_in : Members → Result Costs Refusal
costs_in table = do
  _ ← checked_keys (bad_key in_cost) cost_keys cost_keys table
  alu ← cost_at_key table (codes "alu")
  load ← cost_at_key table (codes "load")
  store ← cost_at_key table (codes "store")
  taken ← cost_at_key table (codes "taken")
  untaken ← cost_at_key table (codes "untaken")
  jump ← cost_at_key table (codes "jump")
  mul ← cost_at_key table (codes "mul")
  div ← cost_at_key table (codes "div")
  ecall ← cost_at_key table (codes "ecall")
  fence ← cost_at_key table (codes "fence")
  Ok (record {
    alu = alu;
    load = load;
    store = store;
    taken = taken;
    untaken = untaken;
    jump = jump;
    mul = mul;
    div = div;
    ecall = ecall;
    fence = fence;
  })

-- the level of a number
unfoldable pub level_of : ℕ → Members → Result Level Refusal
level_of i table = do
  _ ← checked_keys (bad_key (in_level i)) level_keys level_keys table
  period ← number (in_level i) table 1 (2 ^ 32 - 1) (codes "period")
  energy ← number (in_level i) table 1 (2 ^ 32 - 1) (codes "energy")
  Ok (record { period = period; energy = energy })

-- the levels from a number on
abbrev pub levels_from : ℕ → List Members → Result (List Level) Refusal
levels_from i [] = Ok []
levels_from i (table ∷ tables) = level_of i table >>= λ first. levels_from (i + 1) tables >>= λ others. Ok (first ∷ others)

-- the first level whose period isn't below, or whose energy isn't above, that of the one before; the second of these levels has
-- the number i
abbrev pub first_unranked : ℕ → List Level → Option ℕ
first_unranked i [] = None
first_unranked i (x ∷ []) = None
first_unranked i (x ∷ y ∷ ys) = if nat_lt y.period x.period && nat_lt x.energy y.energy then first_unranked (i + 1) (y ∷ ys) else Some i

abbrev pub ranked : Option ℕ → Result (Unit {0}) Refusal
ranked None = Ok tt
ranked (Some i) = Err (LevelOrder i)

-- the numbers at the top of the file
pub record FileNumbers : Type 0 where
  pub deadline : ℕ
  pub steps : ℕ
  pub min_gain : ℕ
  pub switch_time : SwitchCost
  pub switch_energy : SwitchCost

unfoldable pub top_numbers : ℕ → Members → Result FileNumbers Refusal
top_numbers version table = do
  deadline ← number in_file table 1 (2 ^ 63 - 1) (codes "deadline")
  steps ← number in_file table 1 (2 ^ 40) (codes "steps")
  min_gain ← number in_file table 0 (2 ^ 32 - 1) (codes "min_gain")
  switch_time ← switch_cost version table (codes "switch_time")
  switch_energy ← switch_cost version table (codes "switch_energy")
  Ok (record { deadline = deadline; steps = steps; min_gain = min_gain; switch_time = switch_time; switch_energy = switch_energy })

-- the machine of a table
unfoldable pub machine_of : Members → Result PowerModel Refusal
machine_of table = do
  version ← version_of table
  _ ← checked_keys (bad_key in_file) top_keys top_keys table
  top ← top_numbers version table
  in_costs ← cost_table table
  in_levels ← level_tables table
  costs ← costs_in in_costs
  levels ← levels_from 0 in_levels
  switch_time ← pair_table (codes "switch_time") (length levels) top.switch_time
  switch_energy ← pair_table (codes "switch_energy") (length levels) top.switch_energy
  _ ← ranked (first_unranked 1 levels)
  Ok (record {
    levels = levels;
    costs = costs;
    switch_time = switch_time;
    switch_energy = switch_energy;
    deadline = top.deadline;
    min_gain = top.min_gain;
    steps = top.steps;
  })

-- what reading the bytes of a machine file gives
unfoldable pub read_machine : List ℕ → Result PowerModel Refusal
read_machine bytes = or_refuse MachineText (document_of bytes) >>= machine_of
