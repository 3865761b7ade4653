use Rattle.std.proofs.Common.{sym, ◌∙◌}
use Rattle.std.proofs.lemmas.Result.{err_from_is_err_and}
use Rattle.scale_base.proofs.Laws.{accepted}
use Rattle.elf_view.proofs.Whole.{header_stop, tables_stop, segments_stop, text_stop, whole, is_view}
use Rattle.elf_view.proofs.reading.read_image.Goals as goal

pub returns-in_err-check_header : goal.returns-in_err-check_header
returns-in_err-check_header c =
    let p = err_from_is_err_and c.from_residual.result c.from_residual.ensures.1 in
    rw (p.1, p.2) (header_stop c.args.bytes.now c.in_err-check_header.field-0.0 (sym c.in_err-check_header.ensures.first))

pub returns-in_err-check_tables : goal.returns-in_err-check_tables
returns-in_err-check_tables c =
    let p = err_from_is_err_and c.from_residual-in_err-check_tables.result c.from_residual-in_err-check_tables.ensures.1 in
    rw (p.1, p.2) (tables_stop c.args.bytes.now c.in_err-check_tables.field-0.0 (sym c.in_ok-check_header.ensures.first) (sym c.in_err-check_tables.ensures.first))

pub returns-in_err-segments : goal.returns-in_err-segments
returns-in_err-segments c =
    let p = err_from_is_err_and c.from_residual-in_err-segments.result c.from_residual-in_err-segments.ensures.1 in
    rw (p.1, p.2) (segments_stop c.args.bytes.now c.in_err-segments.field-0.0 (sym c.in_ok-check_header.ensures.first) (sym c.in_ok-check_tables.ensures.first) c.in_err-segments.ensures.rules)

pub returns-in_err-text : goal.returns-in_err-text
returns-in_err-text c =
    let p = err_from_is_err_and c.from_residual-in_err-text.result c.from_residual-in_err-text.ensures.1 in
    let are = c.deref.ensures.value ∙ c.in_ok-segments.ensures.segments in
    rw (p.1, p.2) (text_stop c.args.bytes.now c.in_err-text.field-0.0 (sym c.in_ok-check_header.ensures.first) (sym c.in_ok-check_tables.ensures.first) c.in_ok-segments.ensures.rules (rw are at c.in_err-text.ensures.rules))

pub of-requires : goal.of-requires
of-requires c =
    let are = c.deref.ensures.value ∙ c.in_ok-segments.ensures.segments in
    let texts = rw are at c.in_ok-text.ensures.rules in
    let rules = whole c.args.bytes.now (sym c.in_ok-check_header.ensures.first) (sym c.in_ok-check_tables.ensures.first) c.in_ok-segments.ensures.rules texts in
    is_view c.args.bytes.now c.in_ok-segments.segments.items c.keyed_of-keyed.result c.in_ok-text.text.items c.table_of-symbols.result.strings.now c.table_of-symbols.result.entries.now
    (sym c.in_ok-check_header.ensures.first) (sym c.in_ok-check_tables.ensures.first) texts rules c.in_ok-segments.ensures.segments (rw c.deref-2.ensures.value at c.keyed_of-keyed.ensures)
    (rw c.deref.ensures.value at c.in_ok-text.ensures.ranges) c.in_ok-text.ensures.ascending c.table_of-symbols.ensures

pub returns : goal.returns
returns c =
    let are = c.deref.ensures.value ∙ c.in_ok-segments.ensures.segments in
    rw c.of.ensures (accepted c.args.bytes.now (whole c.args.bytes.now (sym c.in_ok-check_header.ensures.first) (sym c.in_ok-check_tables.ensures.first) c.in_ok-segments.ensures.rules (rw are at c.in_ok-text.ensures.rules)))
