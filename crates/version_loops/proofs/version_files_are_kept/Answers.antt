use Rattle.version_loops.proofs.Law.{files_are_kept}
use Rattle.version_loops.proofs.version_files_are_kept.Goals as goal

pub returns : goal.returns
returns c = files_are_kept
