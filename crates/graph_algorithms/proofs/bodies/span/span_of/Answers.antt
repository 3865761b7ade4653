use Rattle.std.proofs.Common.{rules}
use Rattle.graph_algorithms.proofs.SpanLaws.{spanned_none, spanned_all}
use Rattle.graph_algorithms.proofs.bodies.span.span_of.Goals as goal

pub loop-one-init : goal.loop-one-init
loop-one-init c = spanned_none c.args.loops.now _

pub returns : goal.returns
returns c = spanned_all c.args.loops.now c.args.count c.loop-one.one-index c.loop-one.whole c.capped.result (search rules) c.loop-one.invariant c.capped.ensures.within c.capped.ensures.nodes
