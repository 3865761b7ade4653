use Rattle.std.proofs.lemmas.Option.{slice_get-get_or}
use Rattle.foreign_scan.specs.Least.{is_odd_byte}
use Rattle.foreign_scan.proofs.LeastLaws.{least_ranges, no_ranges}
use Rattle.foreign_scan.proofs.bytes.odd_among.Goals as goal

pub loop-range-init : goal.loop-range-init
loop-range-init c = λ a h. absurd (no_ranges c.args.ranges.now a h)

pub loop-range-preserved : goal.loop-range-preserved
loop-range-preserved c =
    least_ranges (is_odd_byte c.args.original.now c.args.foreign.now) c.args.ranges.now c.loop-range.range-index _ c.loop-range.least c.odd_from.result c.lesser-least.result
    (slice_get-get_or c.args.ranges.now c.loop-range.range-index _ c.loop-range-test.true) c.loop-range.invariant c.odd_from.ensures c.lesser-least.ensures
