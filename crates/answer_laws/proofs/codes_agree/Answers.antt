use Rattle.answer_laws.proofs.Codes.{graphs_renumbered, weights_same}
use Rattle.answer_laws.proofs.Refusals.{graph_is_not_refused, code_refusals_agree}
use Rattle.answer_laws.proofs.codes_agree.Goals as goal

pub returns-clause-not_both : goal.returns-clause-not_both
returns-clause-not_both c = graph_is_not_refused

pub returns-clause-refusals : goal.returns-clause-refusals
returns-clause-refusals c = code_refusals_agree

pub returns-clause-graphs : goal.returns-clause-graphs
returns-clause-graphs c = graphs_renumbered

pub returns-clause-weights : goal.returns-clause-weights
returns-clause-weights c = weights_same
