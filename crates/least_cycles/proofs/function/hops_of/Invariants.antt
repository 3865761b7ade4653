use Rattle.least_cycles.specs.Functions.{IsFromFirst}
use Rattle.least_cycles.specs.Passes.{AreHopsIn}
use Rattle.least_cycles.proofs.function.hops_of.Given as goal

abbrev pub invariant-loop-i : goal.invariant-loop-i
invariant-loop-i l = AreHopsIn l.runs (IsFromFirst l.runs.graph.now l.runs.nodes.now l.i) l.hops.items
