use Rattle.image_lower.proofs.TreeSteps.{trees_find}
use Rattle.image_lower.proofs.runs.trees_find_targets.Goals as goal

pub returns : goal.returns
returns c = trees_find
