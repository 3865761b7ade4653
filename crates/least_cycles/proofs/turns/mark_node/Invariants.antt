use Rattle.std.proofs.Common.{◌⊎◌}
use Rattle.least_cycles.specs.Functions.{IsFromFirst, IsFromNext}
use Rattle.least_cycles.specs.Passes.{AreKindsIn}
use Rattle.least_cycles.proofs.turns.mark_node.Given as goal

abbrev pub invariant-loop-e : goal.invariant-loop-e
invariant-loop-e l = AreKindsIn l.body (λ d. IsFromFirst l.body.graph.now l.body.nodes.now l.i d ⊎ IsFromNext l.body.graph.now l.body.nodes.now l.i l.e d) l.turns.items l.stays.items
