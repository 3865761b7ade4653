use Rattle.graph_algorithms.specs.Nesting.{bodies_of}
use Rattle.loop_tree.specs.Backs.{AreBacks}
use Rattle.loop_tree.proofs.backs.back_loops.Given as goal

abbrev pub invariant-loop-e : goal.invariant-loop-e
invariant-loop-e l = AreBacks l.graph l.headers (bodies_of l.bodies) l.e l.backs.items
