use Rattle.code_text.proofs.Laws.{walked_in}
use Rattle.image_lower.specs.FarJumps.{far_patch}
use Rattle.image_lower.proofs.FewPatches.{few_patches}
use Rattle.image_lower.proofs.Rows.{next_words}
use Rattle.image_lower.proofs.far.far_patches.Goals as goal

pub add_far_patches-requires-clause-range : goal.add_far_patches-requires-clause-range
add_far_patches-requires-clause-range c = walked_in c.args.view.now c.text-text.result.now c.loop-range.range-index c.text-text.ensures.ranges c.text-text.ensures.image c.loop-range-test.true

pub loop-range-preserved : goal.loop-range-preserved
loop-range-preserved c =
    next_words (far_patch c.args.view.now c.args.notes.now) c.text-text.result.now c.loop-range.range-index (record { from = 0; to = 0 }) c.loop-range.patches.items c.add_far_patches.new.patches.items
    c.loop-range-test.true c.loop-range.invariant c.in_ok-add_far_patches.ensures

pub returns-clause-few : goal.returns-clause-few
returns-clause-few c =
    few_patches c.args.view.now c.args.notes.now c.text-text.result.now c.loop-range.patches.items c.loop-range.range-index c.text-text.ensures.image c.text-text.ensures.ascending c.text-text.ensures.ranges
    c.loop-range-test.false c.loop-range.invariant
