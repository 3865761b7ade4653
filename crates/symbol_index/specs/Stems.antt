-- Scaffold: stems of names, and the defined symbols of a table by their stems.
use Rattle.std.specs.Prelude.{◌≡◌, ℕ, ◌+◌, ◌-◌, ◌*◌, ◌/◌, ◌%◌, ◌^◌, ◌≤◌, ◌==◌, Bool, bit_xor, if◌then◌else◌, List, [], ◌∷◌, length, map, filter, take, drop}
use Rattle.std.specs.List.{range_with_len}
use Rattle.std.specs.List.Sorted.{IsNonDecreasingBy}
use Rattle.scale_base.specs.Bytes.{list_word_at}
use Rattle.elf_image.specs.Table.{is_defined, AreSymbolBytes}
use Rattle.symbol_index.specs.declared.stems.SymbolKey.{SymbolKey}

-- a stem and one byte more
unfoldable pub mixed : ℕ → ℕ → ℕ
mixed stem byte = (bit_xor stem byte * 1099511628211) % 2 ^ 64

-- the same with the bytes before the first 0
abbrev pub stem_from : ℕ → List ℕ → ℕ
stem_from stem [] = stem
stem_from stem (byte ∷ bytes) = if byte == 0 then stem else stem_from (mixed stem byte) bytes

-- the stem of the bytes before the first 0, at most 4096 of them
unfoldable pub stem_of : List ℕ → ℕ
stem_of text = stem_from 14695981039346656037 (take 4096 text)

-- entry k, by the stem of its name
abbrev pub symbol_key : List ℕ → List ℕ → ℕ → SymbolKey
symbol_key strings table k = record { stem = stem_of (drop (list_word_at table (16 * k)) strings); number = k }

-- the defined ones of so many entries after entry 0, in their order
abbrev pub keys_of : List ℕ → List ℕ → ℕ → List SymbolKey
keys_of strings table count = map (symbol_key strings table) (filter (is_defined table) (range_with_len 1 count))

-- a key has this stem
abbrev pub has_stem : ℕ → SymbolKey → Bool
has_stem stem key = key.stem == stem

-- an entry lies in a table of so many bytes
abbrev pub IsInTable : ℕ → SymbolKey → Type 0
IsInTable size key = 16 * key.number + 16 ≤ size

-- All defined symbols after entry 0 by their stems. Those of one stem are in their order.
pub record AreSortedKeys (strings table : List ℕ) (keys : List SymbolKey) : Type 0 where
  pub rise : IsNonDecreasingBy (λ key. key.stem) keys
  pub same : (stem : ℕ) → filter (has_stem stem) keys ≡ filter (has_stem stem) (keys_of strings table (length table / 16 - 1))

-- what the fields of sorted symbols keep
pub record AreSymbolsOf (file strings table : List ℕ) (keys : List SymbolKey) : Type 0 where
  pub bytes : AreSymbolBytes file strings table
  pub keys_are : AreSortedKeys strings table keys
