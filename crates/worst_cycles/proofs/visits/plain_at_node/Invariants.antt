use Rattle.std.proofs.Common.{slice_index}
use Rattle.cost_theory.specs.Worst.{Numbers}
use Rattle.worst_cycles.specs.Worst.{by_edge}
use Rattle.worst_cycles.specs.Visits.{AreSolvedBy, AreKnownAt}
use Rattle.worst_cycles.proofs.OverLaws.{IsPlainMost}
use Rattle.worst_cycles.proofs.visits.plain_at_node.Given as goal

abbrev pub invariant-loop-e : goal.invariant-loop-e
invariant-loop-e l = (n : Numbers) → AreSolvedBy l.planned.graph.now l.planned.tree.now (by_edge l.planned.weights.now) n → AreKnownAt l.planned.graph.now l.planned.tree.now l.planned.plan.now l.visits n (slice_index l.planned.graph.now.code.nodes l.k) →
    IsPlainMost l.planned.graph.now l.planned.tree.now (by_edge l.planned.weights.now) n l.first l.e l.most
