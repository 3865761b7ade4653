use Rattle.worst_reports.proofs.HeldFacts.{explained_held}
use Rattle.worst_reports.proofs.explained_programs_are_held.Goals as goal

pub returns : goal.returns
returns c = explained_held
