use Rattle.image_check.specs.Levels.{ForAllKnown}
use Rattle.image_check.proofs.FirstLevels.{NoneBelow}
use Rattle.image_check.proofs.levels.first_level.Given as goal

abbrev pub invariant-loop-k : goal.invariant-loop-k
invariant-loop-k l = ForAllKnown l.known (λ foreign found w n least. NoneBelow l.known foreign found w n least l.k)
