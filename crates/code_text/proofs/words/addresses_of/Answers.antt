use Rattle.code_text.proofs.Rising.{walk_rises}
use Rattle.code_text.proofs.words.addresses_of.Goals as goal

pub returns-clause-rising : goal.returns-clause-rising
returns-clause-rising c =
    walk_rises c.args.view.now.text c.text-text.result.now c.loop-range.addresses.items c.loop-range.range-index c.text-text.ensures.ascending c.text-text.ensures.ranges c.loop-range-test.false c.loop-range.invariant
