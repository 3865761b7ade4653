use Rattle.std.proofs.Common.{◌+◌, Bool, List, sym, subst, arith}
use Rattle.least_cycles.specs.Tables.{AreLeading}
use Rattle.least_cycles.proofs.FunctionLaws.{leading_more}
use Rattle.least_cycles.proofs.plan.leading_of.Goals as goal

pub loop-e-preserved : goal.loop-e-preserved
loop-e-preserved c =
    subst (λ (flags : List Bool). AreLeading c.args.graph.now (c.loop-e.e + 1) flags) (sym c.in_ok-push.ensures.items)
    (leading_more c.args.graph.now c.loop-e.e c.loop-e.flags.items c.loop-e.invariant (let count = c.edge_count-e-end.ensures.count in omega arith) c.is_some.result c.target.result c.is_some.ensures (c.target.ensures.some) (c.target.ensures.within) (c.target.ensures.none))
