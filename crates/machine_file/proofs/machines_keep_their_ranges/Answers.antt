use Rattle.machine_file.proofs.RangeLaws.{model-from_bytes}
use Rattle.machine_file.proofs.machines_keep_their_ranges.Goals as goal

pub returns : goal.returns
returns c = model-from_bytes
