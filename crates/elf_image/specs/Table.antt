-- Scaffold: the bytes of a symbol table.
use Rattle.std.specs.Prelude.{◌≡◌, ℕ, ◌+◌, ◌*◌, ◌==◌, not, Bool, List}
use Rattle.scale_base.specs.Bytes.{list_half_at}
use Rattle.scale_base.specs.Symbols.{symbol_value, value_in}

-- the section of entry k of a symbol table (st_shndx) isn't 0
abbrev pub is_defined : List ℕ → ℕ → Bool
is_defined table k = not (list_half_at table (16 * k + 14) == 0)

-- these are the bytes of the first symbol table of a file, and of its strings
abbrev pub AreSymbolBytes : List ℕ → List ℕ → List ℕ → Type 0
AreSymbolBytes file strings table = (name : List ℕ) → symbol_value file name ≡ value_in name strings table
