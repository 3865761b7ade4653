-- The plain image of some words: an ELF file with one loaded segment, which begins with them (System V ABI, chapters 4 and 5).
use Rattle.std.specs.Prelude.{ℕ, ◌*◌, List, [], ◌∷◌, ◌++◌, length, replicate}
use Rattle.std.specs.List.{flat_map}
use Rattle.std.specs.Int.{bytes_low_first}

-- the lowest n bytes of a number, the lowest first
abbrev pub little_bytes : ℕ → ℕ → List ℕ
little_bytes n x = bytes_low_first 0 n x

-- where the words stand
abbrev pub START : ℕ
START = 0x00010000

-- the magic; the class, the encoding and the version, up to byte 15
abbrev pub ident : List ℕ
ident = 0x7F ∷ 0x45 ∷ 0x4C ∷ 0x46 ∷ 1 ∷ 1 ∷ 1 ∷ replicate 9 0

abbrev pub halves : List ℕ → List ℕ
halves numbers = flat_map (little_bytes 2) numbers

abbrev pub words : List ℕ → List ℕ
words numbers = flat_map (little_bytes 4) numbers

-- e_type and e_machine; e_version, e_entry, e_phoff, e_shoff and e_flags; e_ehsize, e_phentsize, e_phnum, and zeros
abbrev pub file_header : List ℕ
file_header =
    ident ++ halves (2 ∷ 243 ∷ []) ++ words (1 ∷ START ∷ 52 ∷ 0 ∷ 0 ∷ []) ++ halves (52 ∷ 32 ∷ 1 ∷ 0 ∷ 0 ∷ 0 ∷ [])

-- p_type, p_offset, p_vaddr, p_paddr, p_filesz, p_memsz, p_flags and p_align
abbrev pub made_program_header : ℕ → List ℕ
made_program_header len = words (1 ∷ 84 ∷ START ∷ START ∷ len ∷ len ∷ 5 ∷ 4 ∷ [])

abbrev pub plain_image : List ℕ → List ℕ
plain_image text = file_header ++ made_program_header (4 * length text) ++ words text
