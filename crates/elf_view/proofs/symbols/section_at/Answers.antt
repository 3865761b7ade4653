use Rattle.std.proofs.Common.{◌∙◌, ap, Some, arith}
use Rattle.scale_base.specs.declared.headers.SectionHeader.{SectionHeader}
use Rattle.elf_view.proofs.SymbolLemmas.{section_at-in, section_at-past}
use Rattle.elf_view.proofs.symbols.section_at.Goals as goal

pub returns-then-k-section_header_count : goal.returns-then-k-section_header_count
returns-then-k-section_header_count c =
    ap (λ (s : SectionHeader). Some s) c.read_section_header.ensures ∙ section_at-in c.args.bytes.now c.args.k (omega (arith, c.section_header_count.ensures.value))

pub returns-else-k-section_header_count : goal.returns-else-k-section_header_count
returns-else-k-section_header_count c = section_at-past c.args.bytes.now c.args.k (omega (arith, c.section_header_count.ensures.value))
