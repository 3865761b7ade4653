use Rattle.std.proofs.Common.{rules}
use Rattle.graph_algorithms.proofs.SpanLaws.{joined_none, joined_all}
use Rattle.graph_algorithms.proofs.bodies.span.widened.Goals as goal

pub loop-part-init : goal.loop-part-init
loop-part-init c = joined_none c.args.range c.args.extent.now

pub returns-clause-extent : goal.returns-clause-extent
returns-clause-extent c = joined_all c.args.range c.args.extent.now c.loop-part.part-index c.loop-part.whole (search rules) c.loop-part.invariant
