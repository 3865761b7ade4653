-- The symbols of a file (System V ABI, chapter 4, "Symbol Table").
use Rattle.std.specs.Prelude.{ℕ, ◌+◌, ◌-◌, ◌*◌, ◌/◌, length, List, [], ◌∷◌, ◌++◌, drop, find, slice_get, slice_range, Bool, false, ◌==◌, ◌&&◌, not, nat_le, nat_eq, if◌then◌else◌, Option, Some, None, option_map}
use Rattle.std.specs.List.{list_any, range_with_len, starts_with}
use Rattle.scale_base.specs.declared.headers.SectionHeader.{SectionHeader}
use Rattle.scale_base.specs.Bytes.{list_half_at, list_word_at}
use Rattle.scale_base.specs.Elf.{has_sections, section_headers}

-- the bytes of the section lie in a file of so many bytes
abbrev pub lies_in : ℕ → SectionHeader → Bool
lies_in len s = nat_le (s.sh_offset + s.sh_size) len

-- a string table (SHT_STRTAB) whose bytes lie in the file
abbrev pub is_string_table : ℕ → Option SectionHeader → Bool
is_string_table len None = false
is_string_table len (Some s) = (s.sh_type == 3) && lies_in len s

-- a symbol table (SHT_SYMTAB), where its bytes and those of its string table lie in the file
abbrev pub is_symbol_table : List ℕ → SectionHeader → Bool
is_symbol_table file s =
    (s.sh_type == 2) && lies_in (length file) s && is_string_table (length file) (slice_get (section_headers file) s.sh_link)

-- the first of them
unfoldable pub symbol_table : List ℕ → Option SectionHeader
symbol_table file = if has_sections file then find (is_symbol_table file) (section_headers file) else None

-- the bytes of a section
abbrev pub bytes_of : List ℕ → Option SectionHeader → List ℕ
bytes_of file None = []
bytes_of file (Some s) = slice_range file s.sh_offset (s.sh_offset + s.sh_size)

-- the name stands at a place of the strings: its bytes, none of them 0, and then a 0
abbrev pub stands_at : List ℕ → List ℕ → ℕ → Bool
stands_at name strings at = not (list_any (λ b. b == 0) name) && starts_with nat_eq (drop at strings) (name ++ 0 ∷ [])

-- entry k of a symbol table of these bytes has the name, and its section (st_shndx) isn't 0
abbrev pub is_named : List ℕ → List ℕ → List ℕ → ℕ → Bool
is_named name strings table k = not (list_half_at table (16 * k + 14) == 0) && stands_at name strings (list_word_at table (16 * k))

-- the value of the first entry after entry 0 with the name
abbrev pub value_in : List ℕ → List ℕ → List ℕ → Option ℕ
value_in name strings table = option_map (λ k. list_word_at table (16 * k + 4))
    (find (is_named name strings table) (range_with_len 1 (length table / 16 - 1)))

abbrev pub symbol_in : List ℕ → List ℕ → Option SectionHeader → Option ℕ
symbol_in file name None = None
symbol_in file name (Some s) = value_in name (bytes_of file (slice_get (section_headers file) s.sh_link)) (bytes_of file (Some s))

-- the value of a symbol
unfoldable pub symbol_value : List ℕ → List ℕ → Option ℕ
symbol_value file name = symbol_in file name (symbol_table file)
