use Rattle.std.proofs.Common.{◌<◌, ◌≤◌, length, sym, ap, ◌∙◌, arith}
use Rattle.std.proofs.lemmas.Result.{err_from_is_err_and}
use Rattle.scale_base.specs.Elf.{e_shnum, section_headers}
use Rattle.scale_base.specs.Image.{text_of_section}
use Rattle.elf_view.proofs.SymbolLemmas.{length-sections, section-is}
use Rattle.elf_view.proofs.TextLemmas.{text_none, text_low, table_next, table_stop, table_done}
use Rattle.elf_view.proofs.text.section_ends.Goals as goal

pub loop-k-init : goal.loop-k-init
loop-k-init c = record { parts = rw (c.new-text.ensures.ranges, c.new-text.ensures.bytes) (text_none c.args.bytes.now c.args.segments.now); ascending = rw c.new-text.ensures.ranges tt }

pub add_next-requires-clause-few : goal.add_next-requires-clause-few
add_next-requires-clause-few c = text_low _ _ _ _ _ c.loop-k.invariant.parts

pub returns-in_err-add_next-clause-rules : goal.returns-in_err-add_next-clause-rules
returns-in_err-add_next-clause-rules c =
    let p = err_from_is_err_and c.from_residual.result c.from_residual.ensures.1 in
    let lt : c.loop-k.k < e_shnum c.args.bytes.now = omega (arith, c.section_header_count-k-end.ensures.value) in
    let is = c.text_of_section-part.ensures.part ∙ ap text_of_section (c.read_section_header.ensures ∙ sym (section-is c.args.bytes.now c.loop-k.k c.read_section_header.result lt)) in
    rw (p.1, p.2) (table_stop text_of_section (section_headers c.args.bytes.now) c.loop-k.k c.read_section_header.result c.args.bytes.now c.args.segments.now _ _ _ _ (omega (arith, length-sections c.args.bytes.now)) is c.loop-k.invariant.parts c.text_of_section-part.ensures.some c.in_err-add_next.ensures.rules)

pub loop-k-preserved : goal.loop-k-preserved
loop-k-preserved c =
    let lt : c.loop-k.k < e_shnum c.args.bytes.now = omega (arith, c.section_header_count-k-end.ensures.value) in
    let is = c.text_of_section-part.ensures.part ∙ ap text_of_section (c.read_section_header.ensures ∙ sym (section-is c.args.bytes.now c.loop-k.k c.read_section_header.result lt)) in
    record {
      parts = table_next text_of_section (section_headers c.args.bytes.now) c.loop-k.k c.read_section_header.result c.args.bytes.now c.args.segments.now _ _ _ _ _ (omega (arith, length-sections c.args.bytes.now)) is c.loop-k.invariant.parts c.text_of_section-part.ensures.some c.in_ok-add_next.ensures.rules c.in_ok-add_next.ensures.ranges c.in_ok-add_next.ensures.bytes;
      ascending = c.in_ok-add_next.ensures.kept;
    }

pub returns-clause-rules : goal.returns-clause-rules
returns-clause-rules c =
    let le : length (section_headers c.args.bytes.now) ≤ c.loop-k.k = omega (arith, c.section_header_count-k-end.ensures.value, length-sections c.args.bytes.now) in
    (table_done text_of_section (section_headers c.args.bytes.now) c.loop-k.k c.args.bytes.now c.args.segments.now _ _ le c.loop-k.invariant.parts).rules

pub returns-clause-ranges : goal.returns-clause-ranges
returns-clause-ranges c =
    let le : length (section_headers c.args.bytes.now) ≤ c.loop-k.k = omega (arith, c.section_header_count-k-end.ensures.value, length-sections c.args.bytes.now) in
    (table_done text_of_section (section_headers c.args.bytes.now) c.loop-k.k c.args.bytes.now c.args.segments.now _ _ le c.loop-k.invariant.parts).ranges_are
