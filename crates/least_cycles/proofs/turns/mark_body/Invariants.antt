use Rattle.least_cycles.specs.Functions.{IsFromFirst}
use Rattle.least_cycles.specs.Passes.{AreKindsIn}
use Rattle.least_cycles.proofs.turns.mark_body.Given as goal

abbrev pub invariant-loop-i : goal.invariant-loop-i
invariant-loop-i l = AreKindsIn l.body (IsFromFirst l.body.graph.now l.body.nodes.now l.i) l.turns.items l.stays.items
