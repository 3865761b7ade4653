use Rattle.paced_images.proofs.KeptFacts.{useful_safe}
use Rattle.paced_images.proofs.proposed.pace_useful.Goals as goal

pub returns-clause-safe : goal.returns-clause-safe
returns-clause-safe c = useful_safe c.args.image.now c.args.machine.now c.args.loops.now c.args.proposal.now c.pace_all.result c.requires.image c.requires.machine c.requires.loops c.args.proposal.now.quarters c.pace_all.ensures
