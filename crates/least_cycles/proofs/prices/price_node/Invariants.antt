use Rattle.std.proofs.Common.{◌⊎◌}
use Rattle.least_cycles.specs.Functions.{IsFromFirst, IsFromNext}
use Rattle.least_cycles.specs.Passes.{ArePricedBy}
use Rattle.least_cycles.proofs.prices.price_node.Given as goal

abbrev pub invariant-loop-e : goal.invariant-loop-e
invariant-loop-e l = ArePricedBy l.tables (λ d. IsFromFirst l.tables.graph.now l.bucket l.i d ⊎ IsFromNext l.tables.graph.now l.bucket l.i l.e d) l.costs.items l.lasts.items
