use Rattle.graph_algorithms.proofs.BitLaws.{set_flags}
use Rattle.graph_algorithms.proofs.bodies.bits.set_bit.Goals as goal

pub returns-clause-bits : goal.returns-clause-bits
returns-clause-bits c = set_flags c.args.words.now c.args.node c.args.bit c.requires.node c.requires.bit
