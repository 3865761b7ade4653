use Rattle.std.proofs.Common.{length}
use Rattle.run_pictures.proofs.axes.+longest.Given as goal

abbrev pub decreases-longest : goal.decreases-longest
decreases-longest l = length l.runs.now
