use Rattle.std.proofs.Common.{◌⊎◌}
use Rattle.least_cycles.specs.Functions.{IsFromFirst, IsFromNext}
use Rattle.least_cycles.specs.Passes.{AreHopsIn}
use Rattle.least_cycles.proofs.function.push_hops.Given as goal

abbrev pub invariant-loop-e : goal.invariant-loop-e
invariant-loop-e l = AreHopsIn l.runs (λ d. IsFromFirst l.runs.graph.now l.runs.nodes.now l.i d ⊎ IsFromNext l.runs.graph.now l.runs.nodes.now l.i l.e d) l.hops.items
