use Rattle.std.proofs.Common.{false}
use Rattle.image_check.proofs.FirstLevels.{both_of}
use Rattle.image_check.proofs.levels.both_level.Goals as goal

pub returns-in-Some : goal.returns-in-Some
returns-in-Some c = λ original foreign found w n least by. (false, λ e. let never : ⊥ = cc in absurd never, c.in-Some.ensures original foreign found w n least by)

pub returns-in-None : goal.returns-in-None
returns-in-None c = λ original foreign found w n least by.
    both_of c.args.known.now foreign found w n least c.args.k c.node_level-in-None.result (c.in-None.ensures original foreign found w n least by) (c.node_level-in-None.ensures original foreign found w n least by)
