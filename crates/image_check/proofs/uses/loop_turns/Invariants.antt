use Rattle.image_check.specs.Uses.{AreTurns}
use Rattle.image_check.proofs.uses.loop_turns.Given as goal

abbrev pub invariant-loop-e : goal.invariant-loop-e
invariant-loop-e l = AreTurns l.graph l.tree l.e l.turns.items
