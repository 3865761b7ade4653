use Rattle.std.proofs.Common.{◌≡◌, ◌⊎◌, ◌+◌, ◌<◌, length, arith, subst}
use Rattle.least_cycles.specs.Functions.{IsFromFirst, IsFromNext}
use Rattle.least_cycles.specs.Passes.{ArePricedBy}
use Rattle.least_cycles.proofs.FunctionLaws.{next_step, next_end}
use Rattle.least_cycles.proofs.PriceLaws.{priced_more, priced_for}
use Rattle.least_cycles.proofs.prices.price_node.Goals as goal

pub loop-e-preserved : goal.loop-e-preserved
loop-e-preserved c =
    let v = c.args.tables.now.graph.now in
    let bucket = c.args.bucket.now in
    let within = c.edges_of-first.ensures.within in
    let lt : c.loop-e.e < length v.code.edges = omega arith in
    priced_more c.args.tables.now (λ d. IsFromFirst v bucket c.args.i d ⊎ IsFromNext v bucket c.args.i c.loop-e.e d) (λ d. IsFromFirst v bucket c.args.i d ⊎ IsFromNext v bucket c.args.i (c.loop-e.e + 1) d)
    c.loop-e.costs.items c.loop-e.lasts.items c.loop-e.invariant c.loop-e.e c.price-cost.result.0 c.price-cost.result.1 lt c.price-cost.ensures (λ d dl done. next_step v bucket c.args.i c.loop-e.e d done)

pub returns : goal.returns
returns c =
    let v = c.args.tables.now.graph.now in
    let bucket = c.args.bucket.now in
    let last : c.loop-e.e ≡ c.edges_of-first.result.1 = (let within = c.edges_of-first.ensures.within in omega arith) in
    let whole = subst (λ e. ArePricedBy c.args.tables.now (λ d. IsFromFirst v bucket c.args.i d ⊎ IsFromNext v bucket c.args.i e d) c.loop-e.costs.items c.loop-e.lasts.items) last c.loop-e.invariant in
    priced_for c.args.tables.now (λ d. IsFromFirst v bucket c.args.i d ⊎ IsFromNext v bucket c.args.i c.edges_of-first.result.1 d) (IsFromFirst v bucket (c.args.i + 1)) c.loop-e.costs.items c.loop-e.lasts.items whole
    (λ e lt done. next_end v bucket c.args.i c.edges_of-first.result.1 e (λ from. ((c.edges_of-first.ensures.edges e lt).0 from).1) done)
