use Rattle.check_laws.proofs.PassedFiles.{files_checked}
use Rattle.check_laws.proofs.rewritten_files_are_checked.Goals as goal

pub returns : goal.returns
returns c = record { files = files_checked }
