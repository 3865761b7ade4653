use Rattle.loop_forest.specs.Arcs.{ArePlainArcs}
use Rattle.loop_forest.proofs.arcs.plain_arcs.Given as goal

abbrev pub invariant-loop-e : goal.invariant-loop-e
invariant-loop-e l = ArePlainArcs l.graph l.backs l.e l.arcs.items
