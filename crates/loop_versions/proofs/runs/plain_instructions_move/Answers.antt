use Rattle.loop_versions.proofs.Moved.{plain_moves}
use Rattle.loop_versions.proofs.runs.plain_instructions_move.Goals as goal

pub returns : goal.returns
returns c = plain_moves
