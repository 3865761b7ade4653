use Rattle.answer_laws.proofs.Trees.{tree_is_not_refused, loop_refusals_agree, trees_agree}
use Rattle.answer_laws.proofs.loops_agree.Goals as goal

pub returns-clause-not_both : goal.returns-clause-not_both
returns-clause-not_both c = tree_is_not_refused

pub returns-clause-refusals : goal.returns-clause-refusals
returns-clause-refusals c = loop_refusals_agree

pub returns-clause-trees : goal.returns-clause-trees
returns-clause-trees c = trees_agree
