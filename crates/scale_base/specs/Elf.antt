-- The structures of a 32-bit ELF file (System V ABI, chapter 4 and 5), as they stand in a list of bytes.
use Rattle.std.specs.Prelude.{ℕ, ◌+◌, ◌*◌, List, map, Bool, ◌==◌, ◌&&◌, not, bit_and}
use Rattle.std.specs.List.{range_with_len}
use Rattle.scale_base.specs.declared.headers.ProgramHeader.{ProgramHeader}
use Rattle.scale_base.specs.declared.headers.SectionHeader.{SectionHeader}
use Rattle.scale_base.specs.Bytes.{list_half_at, list_word_at}

-- ---- the header

abbrev pub e_type : List ℕ → ℕ
e_type file = list_half_at file 16

abbrev pub e_machine : List ℕ → ℕ
e_machine file = list_half_at file 18

abbrev pub e_version : List ℕ → ℕ
e_version file = list_word_at file 20

abbrev pub e_entry : List ℕ → ℕ
e_entry file = list_word_at file 24

abbrev pub e_phoff : List ℕ → ℕ
e_phoff file = list_word_at file 28

abbrev pub e_shoff : List ℕ → ℕ
e_shoff file = list_word_at file 32

abbrev pub e_flags : List ℕ → ℕ
e_flags file = list_word_at file 36

abbrev pub e_phentsize : List ℕ → ℕ
e_phentsize file = list_half_at file 42

abbrev pub e_phnum : List ℕ → ℕ
e_phnum file = list_half_at file 44

abbrev pub e_shentsize : List ℕ → ℕ
e_shentsize file = list_half_at file 46

abbrev pub e_shnum : List ℕ → ℕ
e_shnum file = list_half_at file 48

-- section headers are present
abbrev pub has_sections : List ℕ → Bool
has_sections file = not (e_shoff file == 0) && not (e_shnum file == 0)

-- ---- flags

-- one of the bits is set
abbrev pub has : ℕ → ℕ → Bool
has flags bits = not (bit_and flags bits == 0)

-- ---- program headers

unfoldable pub program_header : List ℕ → ℕ → ProgramHeader
program_header file k = let at = e_phoff file + 32 * k in record {
  p_type = list_word_at file at;
  p_offset = list_word_at file (at + 4);
  p_vaddr = list_word_at file (at + 8);
  p_paddr = list_word_at file (at + 12);
  p_filesz = list_word_at file (at + 16);
  p_memsz = list_word_at file (at + 20);
  p_flags = list_word_at file (at + 24);
}

unfoldable pub program_headers : List ℕ → List ProgramHeader
program_headers file = map (program_header file) (range_with_len 0 (e_phnum file))

-- ---- section headers

unfoldable pub section_header : List ℕ → ℕ → SectionHeader
section_header file k = let at = e_shoff file + 40 * k in record {
  sh_type = list_word_at file (at + 4);
  sh_flags = list_word_at file (at + 8);
  sh_addr = list_word_at file (at + 12);
  sh_offset = list_word_at file (at + 16);
  sh_size = list_word_at file (at + 20);
  sh_link = list_word_at file (at + 24);
}

unfoldable pub section_headers : List ℕ → List SectionHeader
section_headers file = map (section_header file) (range_with_len 0 (e_shnum file))
