use Rattle.stored_runs.proofs.Ways.{fragment_does, way_does, taken_does, untaken_does}
use Rattle.stored_runs.proofs.stub_steps.stubs_at_work.Goals as goal

pub returns-clause-fragment : goal.returns-clause-fragment
returns-clause-fragment c = fragment_does

pub returns-clause-way : goal.returns-clause-way
returns-clause-way c = way_does

pub returns-clause-taken : goal.returns-clause-taken
returns-clause-taken c = taken_does

pub returns-clause-untaken : goal.returns-clause-untaken
returns-clause-untaken c = untaken_does
