use Rattle.std.proofs.Common.{◌≡◌, ◌⊎◌, ◌↔◌, true, None, subst}
use Rattle.flow_graph.specs.FlowGraph.{graph}
use Rattle.least_cycles.proofs.PriceLaws.{price_is, more_small}
use Rattle.least_cycles.proofs.prices.price.Goals as goal

pub small-requires : goal.small-requires
small-requires c = more_small c.args.tables.now c.args.e c.called-more.result c.requires.tables c.requires.edge c.called-more.ensures.cost

pub returns : goal.returns
returns c =
    let g = graph c.args.tables.now.graph.now in
    price_is c.args.tables.now c.args.e c.small.result c.called-more.result c.is_last-last.result c.requires.tables c.requires.edge c.small.ensures (record {
      cost = c.called-more.ensures.cost;
      some = c.called-more.ensures.exit;
      whole = c.called-more.ensures.whole;
      ends = subst (λ b. (c.is_last-last.result ≡ true) ↔ ((g.exits c.args.e ≡ true) ⊎ ((g.target c.args.e ≡ None) × (b ≡ true)))) c.is_some.ensures c.is_last-last.ensures;
    })
