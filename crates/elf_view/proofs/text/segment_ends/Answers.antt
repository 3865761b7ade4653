use Rattle.std.proofs.Common.{◌≤◌, length, arith}
use Rattle.std.proofs.lemmas.Result.{err_from_is_err_and}
use Rattle.scale_base.specs.Image.{text_of_segment}
use Rattle.elf_view.proofs.TextLemmas.{text_none, text_low, table_next, table_stop, table_done}
use Rattle.elf_view.proofs.text.segment_ends.Goals as goal

pub loop-header-init : goal.loop-header-init
loop-header-init c = record { parts = rw (c.new-text.ensures.ranges, c.new-text.ensures.bytes) (text_none c.args.bytes.now c.args.segments.now); ascending = rw c.new-text.ensures.ranges tt }

pub add_next-requires-clause-few : goal.add_next-requires-clause-few
add_next-requires-clause-few c = text_low _ _ _ _ _ c.loop-header.invariant.parts

pub returns-in_err-add_next-clause-rules : goal.returns-in_err-add_next-clause-rules
returns-in_err-add_next-clause-rules c =
    let p = err_from_is_err_and c.from_residual.result c.from_residual.ensures.1 in
    rw (p.1, p.2) (table_stop text_of_segment c.args.segments.now c.loop-header.header-index _ c.args.bytes.now c.args.segments.now _ _ _ _ c.loop-header-test.true c.text_of_segment.ensures.part c.loop-header.invariant.parts c.text_of_segment.ensures.some c.in_err-add_next.ensures.rules)

pub loop-header-preserved : goal.loop-header-preserved
loop-header-preserved c =
    record {
      parts = table_next text_of_segment c.args.segments.now c.loop-header.header-index _ c.args.bytes.now c.args.segments.now _ _ _ _ _ c.loop-header-test.true c.text_of_segment.ensures.part c.loop-header.invariant.parts c.text_of_segment.ensures.some c.in_ok-add_next.ensures.rules c.in_ok-add_next.ensures.ranges c.in_ok-add_next.ensures.bytes;
      ascending = c.in_ok-add_next.ensures.kept;
    }

pub returns-clause-rules : goal.returns-clause-rules
returns-clause-rules c =
    let le : length c.args.segments.now ≤ c.loop-header.header-index = omega arith in
    (table_done text_of_segment c.args.segments.now c.loop-header.header-index c.args.bytes.now c.args.segments.now _ _ le c.loop-header.invariant.parts).rules
