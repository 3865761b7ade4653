-- Places beside symbols, as `objdump` (GNU binutils) writes them.
use Rattle.std.specs.Prelude.{codes, cond, ◌≡◌, ℕ, ◌-◌, ◌≤◌, ◌==◌, ◌↔◌, Bool, true, false, List, [], ◌++◌, Some, is_some}
use Rattle.std.specs.Fmt.{digits}
use Rattle.scale_base.specs.Symbols.{symbol_value}

-- a symbol, and so many bytes behind it in hexadecimal, where there are any
abbrev pub place_words : (name : List ℕ) → (offset : ℕ) → List ℕ
place_words name offset = name ++ cond (offset == 0) [] (codes "+0x" ++ digits 16 false offset)

-- A place so many bytes behind a symbol of the file. Of several symbols of that name it may be another than the first, which is the one that the name gives.
pub record IsNamedPlace (file : List ℕ) (at : ℕ) (name : List ℕ) (offset : ℕ) (is_first : Bool) : Type 0 where
  pub below : offset ≤ at
  pub there : is_some (symbol_value file name) ≡ true
  pub first : (is_first ≡ true) ↔ (symbol_value file name ≡ Some (at - offset))
