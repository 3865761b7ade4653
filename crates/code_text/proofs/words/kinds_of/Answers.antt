use Rattle.code_text.proofs.Walks.{walked_in}
use Rattle.code_text.proofs.words.kinds_of.Goals as goal

pub add_kinds-requires-clause-range : goal.add_kinds-requires-clause-range
add_kinds-requires-clause-range c = walked_in c.args.view.now c.text-text.result.now c.loop-range.range-index c.text-text.ensures.ranges c.text-text.ensures.image c.loop-range-test.true
