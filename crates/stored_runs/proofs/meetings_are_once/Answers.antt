use Rattle.stored_runs.proofs.Meetings.{meetings_once}
use Rattle.stored_runs.proofs.meetings_are_once.Goals as goal

pub returns : goal.returns
returns c = meetings_once
