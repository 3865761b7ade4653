use Rattle.level_reasons.proofs.HeldFacts.{shown_held}
use Rattle.level_reasons.proofs.shown_programs_are_held.Goals as goal

pub returns : goal.returns
returns c = shown_held
