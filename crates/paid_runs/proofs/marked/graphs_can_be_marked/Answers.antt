use Rattle.paid_runs.proofs.Graphs.{targets_are_words, loops_are_countable, weights_of_calls, patched_weights}
use Rattle.paid_runs.proofs.marked.graphs_can_be_marked.Goals as goal

pub returns-clause-targets : goal.returns-clause-targets
returns-clause-targets c = targets_are_words

pub returns-clause-countable : goal.returns-clause-countable
returns-clause-countable c = loops_are_countable

pub returns-clause-weights : goal.returns-clause-weights
returns-clause-weights c = weights_of_calls

pub returns-clause-patched : goal.returns-clause-patched
returns-clause-patched c = patched_weights
