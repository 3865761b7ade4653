use Rattle.run_pictures.proofs.PlaceFacts.{last_few}
use Rattle.run_pictures.proofs.axes.tick_of.Goals as goal

pub first_few-requires-clause-enough : goal.first_few-requires-clause-enough
first_few-requires-clause-enough c = last_few c.args.end c.requires
