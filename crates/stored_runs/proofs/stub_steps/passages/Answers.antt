use Rattle.stored_runs.proofs.Passage.{passes_taken, passes_untaken, passes_jump}
use Rattle.stored_runs.proofs.Cycles.{way_cycles}
use Rattle.stored_runs.proofs.stub_steps.passages.Goals as goal

pub returns-clause-taken : goal.returns-clause-taken
returns-clause-taken c = passes_taken

pub returns-clause-untaken : goal.returns-clause-untaken
returns-clause-untaken c = passes_untaken

pub returns-clause-jump : goal.returns-clause-jump
returns-clause-jump c = passes_jump

pub returns-clause-cost : goal.returns-clause-cost
returns-clause-cost c = way_cycles
