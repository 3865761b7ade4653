use Rattle.least_cycles.specs.Functions.{IsFromFirst}
use Rattle.least_cycles.specs.Passes.{ArePricedBy}
use Rattle.least_cycles.proofs.prices.price_function.Given as goal

abbrev pub invariant-loop-i : goal.invariant-loop-i
invariant-loop-i l = ArePricedBy l.tables (IsFromFirst l.tables.graph.now l.bucket l.i) l.costs.items l.lasts.items
