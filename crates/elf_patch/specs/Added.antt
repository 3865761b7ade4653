-- A file with a block of code added: the entry of the block in the program header table, and, where the file has section headers, one more
-- section (System V ABI, chapter 4, "Sections", and chapter 5, "Program Header").
use Rattle.std.specs.Prelude.{ℕ, ◌+◌, ◌-◌, ◌*◌, List, [], ◌∷◌, ◌++◌, length, replicate, slice_range, if◌then◌else◌}
use Rattle.std.specs.List.{flat_map}
use Rattle.scale_base.specs.declared.ranges.Patch.{Patch}
use Rattle.scale_base.specs.Elf.{e_phnum, e_shoff, e_shnum, has_sections}
use Rattle.elf_patch.specs.Stored.{little, put, block_start, changed, entries, keyed_number}

-- the entry of a block of so many bytes: a segment (PT_LOAD) that is read and executed, aligned to words
abbrev pub code_entry : ℕ → ℕ → ℕ → List ℕ
code_entry place base len = flat_map (little 4) (1 ∷ place ∷ base ∷ base ∷ len ∷ len ∷ 5 ∷ 4 ∷ [])

-- the program header table, with that entry in its place
unfoldable pub code_table : List ℕ → ℕ → ℕ → ℕ → List ℕ
code_table file place base len =
    let k = keyed_number file base in
    entries file 0 k ++ code_entry place base len ++ entries file k (e_phnum file - k)

-- the section of the block: SHT_PROGBITS with SHF_ALLOC and SHF_EXECINSTR, without a name
abbrev pub code_section : ℕ → ℕ → ℕ → List ℕ
code_section place base len = flat_map (little 4) (0 ∷ 1 ∷ 6 ∷ base ∷ place ∷ len ∷ 0 ∷ 0 ∷ 4 ∷ 0 ∷ [])

-- the old section headers and one more
unfoldable pub code_sections : List ℕ → ℕ → ℕ → ℕ → List ℕ
code_sections file place base len =
    if has_sections file then slice_range file (e_shoff file) (e_shoff file + 40 * e_shnum file) ++ code_section place base len else []

-- where the section headers stand, and how many they are
abbrev pub moved_sections : List ℕ → ℕ → List ℕ → List ℕ
moved_sections file at bytes = if has_sections file then put (put bytes 32 (little 4 at)) 48 (little 2 (e_shnum file + 1)) else bytes

-- where the program header table begins, and the section headers behind it
abbrev pub table_start : List ℕ → List ℕ → ℕ
table_start file block = block_start file + length block

abbrev pub sections_start : List ℕ → List ℕ → ℕ
sections_start file block = table_start file block + 32 * (e_phnum file + 1)

-- the file: the original one with each patched word in its place, zeros up to the block, the block, and the tables
unfoldable pub added_file : List ℕ → List Patch → ℕ → List ℕ → List ℕ
added_file file patches base block =
    moved_sections file (sections_start file block) (changed file patches (table_start file block))
    ++ replicate (block_start file - length file) 0
    ++ block
    ++ code_table file (block_start file) base (length block)
    ++ code_sections file (block_start file) base (length block)
