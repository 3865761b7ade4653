-- Scaffold: the least level for which an entry of a word, or of a table, is not safe.
use Rattle.std.specs.Prelude.{◌≡◌, ℕ, ◌+◌, ◌-◌, ◌*◌, ◌/◌, ◌%◌, ◌^◌, ◌<◌, ◌≤◌, ◌==◌, ◌&&◌, ◌||◌, nat_lt, Bool, false, Option, Some, None}
use Rattle.scale_base.specs.State.{word_at}
use Rattle.power_model.specs.Numbers.{PowerModel}
use Rattle.level_tables.specs.Tables.{meets_both, at_row}
use Rattle.level_tables.specs.declared.edge_numbers.EdgeNumbers.{EdgeNumbers}
use Rattle.image_check.specs.Causes.{IsBadEntry}
use Rattle.image_check.specs.LastRows.{last_of}
use Rattle.image_check.specs.declared.last_rows.LastPlaces.{LastPlaces}
use Rattle.image_check.specs.declared.told.ExitTold.{ExitTold}

-- whether an entry is safe
abbrev pub is_safe : PowerModel → EdgeNumbers → (i j : ℕ) → Bool
is_safe power told i j = (j == i) || (nat_lt j i && meets_both power told i j)

-- the least number of a set, if there is one
abbrev pub IsLeastIn : (ℕ → Type 0) → Option ℕ → Type 0
IsLeastIn P None = (i : ℕ) → P i → ⊥
IsLeastIn P (Some i) = P i × ((j : ℕ) → j < i → P j → ⊥)

-- the least level of a word for which the entry isn't safe
abbrev pub IsWordLevel : PowerModel → EdgeNumbers → (word : ℕ) → Option ℕ → Type 0
IsWordLevel power told word = IsLeastIn (IsBadEntry power told word)

-- an entry for level i isn't safe in one of the first rows of a table
abbrev pub HasBadRow : PowerModel → (ℕ → ℕ) → EdgeNumbers → (bound iteration shift table rows i : ℕ) → Type 0
HasBadRow power bytes told bound iteration shift table rows i =
    (j : ℕ) × (j < rows) × IsBadEntry power (at_row bound iteration shift told j) (word_at bytes (table + 4 * j)) i

abbrev pub IsTableLevel : PowerModel → (ℕ → ℕ) → EdgeNumbers → (bound iteration shift table rows : ℕ) → Option ℕ → Type 0
IsTableLevel power bytes told bound iteration shift table rows = IsLeastIn (HasBadRow power bytes told bound iteration shift table rows)

-- ---- the table of an exit

-- the last row, and what the exit tells a row
abbrev pub last_row : ExitTold → ℕ
last_row exit = exit.bound / 2 ^ exit.shift

abbrev pub told_row : ExitTold → ℕ → EdgeNumbers
told_row exit row = at_row exit.bound exit.iteration exit.shift exit.told row

abbrev pub IsExitLevel : PowerModel → (ℕ → ℕ) → ExitTold → (table : ℕ) → Option ℕ → Type 0
IsExitLevel power bytes exit table = IsTableLevel power bytes exit.told exit.bound exit.iteration exit.shift table
    (last_row exit + 1)

-- the rows up to the last one are among `count` words, of which word 0 has the address 4 * first
abbrev pub AreRowsAmong : (first count table last : ℕ) → Type 0
AreRowsAmong first count table last = (table % 4 ≡ 0) × (first ≤ table / 4) × (table / 4 + last < first + count)

-- the last row with entry j for level i is one of those from word `start` on, and the entry isn't safe there
abbrev pub IsBadLast : PowerModel → ExitTold → (start : ℕ) → LastPlaces → (i j : ℕ) → Type 0
IsBadLast power exit start places i j = (start < last_of places i j) × (is_safe power (told_row exit (last_of places i j - 1 - start)) i j
    ≡ false)

-- that of some entry
abbrev pub HasBadLast : PowerModel → ExitTold → (start : ℕ) → LastPlaces → (i : ℕ) → Type 0
HasBadLast power exit start places i = (j : ℕ) × (j < 16) × IsBadLast power exit start places i j
