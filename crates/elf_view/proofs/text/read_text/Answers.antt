use Rattle.std.proofs.Common.{sym, ◌∙◌}
use Rattle.std.proofs.lemmas.Result.{err_from_is_err_and}
use Rattle.scale_base.specs.Image.{text_rules, write_rules, ranges_of, text_parts, all_text_rules}
use Rattle.scale_base.proofs.Laws.{stop_first, stop_later, kept-append}
use Rattle.scale_base.specs.declared.refusal.Stop.TheVariants.{Refused}
use Rattle.elf_view.proofs.TextLemmas.{parts_stop, text_kept, text_missing}
use Rattle.elf_view.proofs.text.read_text.Goals as goal

pub returns-in_err-ends-clause-rules : goal.returns-in_err-ends-clause-rules
unfolding all_text_rules
returns-in_err-ends-clause-rules c =
    let p = err_from_is_err_and c.from_residual.result c.from_residual.ensures.1 in
    let parts = text_parts c.args.bytes.now c.args.segments.now in
    rw (p.1, p.2) (stop_first (text_rules c.args.bytes.now c.args.segments.now parts) (write_rules c.args.segments.now (ranges_of parts)) _ (parts_stop c.args.bytes.now c.args.segments.now parts _ c.in_err-ends.ensures.rules))

pub returns-in_err-check_some-clause-rules : goal.returns-in_err-check_some-clause-rules
unfolding all_text_rules
returns-in_err-check_some-clause-rules c =
    let p = err_from_is_err_and c.from_residual-in_err-check_some.result c.from_residual-in_err-check_some.ensures.1 in
    let parts = text_parts c.args.bytes.now c.args.segments.now in
    let are = c.deref.ensures.value ∙ c.in_ok-ranges.ensures ∙ c.in_ok-ends.ensures.ranges in
    rw (p.1, p.2) (stop_first (text_rules c.args.bytes.now c.args.segments.now parts) (write_rules c.args.segments.now (ranges_of parts)) (Refused c.in_err-check_some.field-0.0)
    (text_missing c.args.bytes.now c.args.segments.now parts c.deref.result.now _ are (sym c.in_err-check_some.ensures)))

pub returns-in_err-check_not_writable-clause-rules : goal.returns-in_err-check_not_writable-clause-rules
unfolding all_text_rules
returns-in_err-check_not_writable-clause-rules c =
    let p = err_from_is_err_and c.from_residual-in_err-check_not_writable.result c.from_residual-in_err-check_not_writable.ensures.1 in
    let parts = text_parts c.args.bytes.now c.args.segments.now in
    let are = c.deref.ensures.value ∙ c.in_ok-ranges.ensures ∙ c.in_ok-ends.ensures.ranges in
    let are-2 = c.deref-2.ensures.value ∙ c.in_ok-ranges.ensures ∙ c.in_ok-ends.ensures.ranges in
    rw (p.1, p.2) (stop_later (text_rules c.args.bytes.now c.args.segments.now parts) (write_rules c.args.segments.now (ranges_of parts)) (Refused c.in_err-check_not_writable.field-0.0)
    (text_kept c.args.bytes.now c.args.segments.now parts c.deref.result.now are c.in_ok-ends.ensures.rules (sym c.in_ok-check_some.ensures)) (sym (rw are-2 at c.in_err-check_not_writable.ensures)))

pub returns-clause-rules : goal.returns-clause-rules
unfolding all_text_rules
returns-clause-rules c =
    let parts = text_parts c.args.bytes.now c.args.segments.now in
    let are = c.deref.ensures.value ∙ c.in_ok-ranges.ensures ∙ c.in_ok-ends.ensures.ranges in
    let are-2 = c.deref-2.ensures.value ∙ c.in_ok-ranges.ensures ∙ c.in_ok-ends.ensures.ranges in
    kept-append (text_rules c.args.bytes.now c.args.segments.now parts) (write_rules c.args.segments.now (ranges_of parts))
    (text_kept c.args.bytes.now c.args.segments.now parts c.deref.result.now are c.in_ok-ends.ensures.rules (sym c.in_ok-check_some.ensures)) (sym (rw are-2 at c.in_ok-check_not_writable.ensures))
