use Rattle.run_pictures.proofs.PlaceFacts.{longest_empty}
use Rattle.run_pictures.proofs.axes.+longest.Goals as goal

pub returns-in-None-clause-longest : goal.returns-in-None-clause-longest
returns-in-None-clause-longest t c = longest_empty c.args.end c.args.runs.now c.in-None.ensures.cases
