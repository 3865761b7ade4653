use Rattle.graph_algorithms.specs.Groups.{IsSearched}
use Rattle.graph_algorithms.proofs.bodies.sweep.sweep_often.Given as goal

abbrev pub invariant-loop : goal.invariant-loop
invariant-loop l = IsSearched l.edges l.inside l.fn.found l.found l.pending
