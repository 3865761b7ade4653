use Rattle.run_stretches.proofs.TakeLaws.{all_taken}
use Rattle.run_stretches.proofs.bars_take_the_run.Goals as goal

pub returns : goal.returns
returns c = all_taken
