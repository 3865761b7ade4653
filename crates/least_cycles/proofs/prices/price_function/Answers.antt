use Rattle.std.proofs.Common.{◌≡◌, length, arith, subst}
use Rattle.least_cycles.specs.Functions.{IsFromFirst}
use Rattle.least_cycles.specs.Passes.{ArePricedBy}
use Rattle.least_cycles.proofs.prices.price_function.Goals as goal

pub returns : goal.returns
returns c =
    let last : c.loop-i.i ≡ length c.args.bucket.now = omega arith in
    subst (λ i. ArePricedBy c.args.tables.now (IsFromFirst c.args.tables.now.graph.now c.args.bucket.now i) c.loop-i.costs.items c.loop-i.lasts.items) last c.loop-i.invariant
