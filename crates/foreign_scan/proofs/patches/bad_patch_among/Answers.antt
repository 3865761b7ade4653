use Rattle.std.proofs.lemmas.Option.{slice_get-get_or}
use Rattle.foreign_scan.specs.Least.{is_bad_word}
use Rattle.foreign_scan.proofs.LeastLaws.{least_ranges, no_ranges}
use Rattle.foreign_scan.proofs.patches.bad_patch_among.Goals as goal

pub loop-range-init : goal.loop-range-init
loop-range-init c = λ a h. absurd (no_ranges c.args.ranges.now a h)

pub loop-range-preserved : goal.loop-range-preserved
loop-range-preserved c =
    least_ranges (is_bad_word c.args.original.now c.args.foreign.now c.args.nodes.now) c.args.ranges.now c.loop-range.range-index _ c.loop-range.least c.bad_patch_in.result c.lesser-least.result
    (slice_get-get_or c.args.ranges.now c.loop-range.range-index _ c.loop-range-test.true) c.loop-range.invariant c.bad_patch_in.ensures c.lesser-least.ensures
