use Rattle.std.proofs.Common.{◌≡◌, true, ap, length, List, ℕ, arith, subst, sym, ◌∙◌}
use Rattle.scale_base.specs.Elf.{has_sections, e_shoff, e_shnum}
use Rattle.scale_base.proofs.Laws.{has_table}
use Rattle.elf_patch.proofs.AddedLemmas.{sections_in_file}
use Rattle.elf_patch.proofs.added.write_added.Goals as goal

pub program_header_count-requires : goal.program_header_count-requires
program_header_count-requires c = rw c.file-file.ensures.bytes (has_table _ _ c.file-file.ensures.image).long

pub push_code_table-requires-clause-header : goal.push_code_table-requires-clause-header
push_code_table-requires-clause-header c = rw c.file-file.ensures.bytes (has_table _ _ c.file-file.ensures.image).long

pub push_code_table-requires-clause-table : goal.push_code_table-requires-clause-table
push_code_table-requires-clause-table c = rw c.file-file.ensures.bytes (has_table _ _ c.file-file.ensures.image).table

pub push_sections-requires-clause-header : goal.push_sections-requires-clause-header
push_sections-requires-clause-header c = rw c.file-file.ensures.bytes (has_table _ _ c.file-file.ensures.image).long

pub push_sections-requires-clause-table : goal.push_sections-requires-clause-table
push_sections-requires-clause-table c = rw c.file-file.ensures.bytes (λ some. sections_in_file _ _ c.file-file.ensures.image some)
