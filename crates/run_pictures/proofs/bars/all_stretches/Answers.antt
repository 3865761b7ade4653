use Rattle.run_pictures.proofs.BarLoops.{all_of_last}
use Rattle.run_pictures.proofs.bars.all_stretches.Goals as goal

pub returns-in-Some : goal.returns-in-Some
returns-in-Some c = all_of_last c.args.ends.now c.in-Some.end.now c.in-Some.ensures.value
