use Rattle.stored_lengths.proofs.Programs.{stubbed_short}
use Rattle.stored_lengths.proofs.stubbed_files_are_short.Goals as goal

pub returns : goal.returns
returns c = stubbed_short
