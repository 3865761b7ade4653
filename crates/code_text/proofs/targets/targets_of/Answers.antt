use Rattle.code_text.specs.Text.{text_of}
use Rattle.code_text.proofs.Walks.{walked_in}
use Rattle.code_text.proofs.Rows.{all_put, sorted_rise}
use Rattle.code_text.proofs.targets.targets_of.Goals as goal

pub add_targets-requires : goal.add_targets-requires
add_targets-requires c = walked_in c.args.view.now c.text-text.result.now c.loop-range.range-index c.text-text.ensures.ranges c.text-text.ensures.image c.loop-range-test.true

pub returns-clause-targets : goal.returns-clause-targets
returns-clause-targets c =
    all_put (text_of c.args.view.now) c.text-text.result.now c.loop-range.targets.items c.sort.new.self.items c.loop-range.range-index c.text-text.ensures.ranges c.loop-range-test.false c.loop-range.invariant c.sort.ensures.permutation

pub returns-clause-rising : goal.returns-clause-rising
returns-clause-rising c = sorted_rise c.sort.new.self.items c.in_ok-sort.ensures.sorted
