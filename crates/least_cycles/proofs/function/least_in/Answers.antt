use Rattle.std.proofs.Common.{length, ◌^◌, sym, subst, List, arith}
use Rattle.least_cycles.specs.declared.Hop.{Hop}
use Rattle.least_cycles.specs.Hops.{AreHops, AreLeastCosts}
use Rattle.least_cycles.proofs.FunctionLaws.{are_hops, least_in}
use Rattle.least_cycles.proofs.ChargeLaws.{with_low}
use Rattle.least_cycles.proofs.function.least_in.Goals as goal

pub least_costs-requires-clause-hops : goal.least_costs-requires-clause-hops
least_costs-requires-clause-hops c =
    let r = c.args.runs.now in
    subst (AreHops (length r.nodes.now) (2 ^ 50)) (sym c.deref.ensures.value)
    (are_hops r (2 ^ 50) c.in_ok-hops.hops.items c.in_ok-hops.ensures (with_low r.graph.now r.costs.now r.charges.now c.requires.low c.requires.charges))

pub returns-clause-least : goal.returns-clause-least
returns-clause-least c =
    least_in c.args.runs.now c.in_ok-hops.hops.items c.in_ok-table.table.items c.requires c.in_ok-hops.ensures
    (subst (λ (hops : List Hop). AreLeastCosts hops c.in_ok-table.table.items) c.deref.ensures.value c.in_ok-table.ensures.least)

pub returns-clause-low : goal.returns-clause-low
returns-clause-low c = λ i x at. let low = c.in_ok-table.ensures.low i x at in let few = c.requires.few in omega arith
