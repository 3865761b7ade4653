use Rattle.keep_monitor.specs.Steps.{AreTurning}
use Rattle.keep_monitor.proofs.steps.turning_loops.Given as goal

abbrev pub invariant-loop-k : goal.invariant-loop-k
invariant-loop-k l = AreTurning l.notes l.k l.turning.items
