use Rattle.std.proofs.Common.{rules}
use Rattle.graph_algorithms.proofs.InsideLaws.{marked_all}
use Rattle.graph_algorithms.proofs.bodies.inside.mark_changes.Goals as goal

pub returns-clause-bits : goal.returns-clause-bits
returns-clause-bits c = marked_all c.args.extent.now c.args.bit c.loop-range.range-index c.args.changes.now c.loop-range.changes (search rules) c.loop-range.invariant
