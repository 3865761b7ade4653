use Rattle.code_graph.specs.Flow.{AreStepChains}
use Rattle.code_graph.proofs.reach.chains.find_chains.Given as goal

abbrev pub invariant-loop-s : goal.invariant-loop-s
invariant-loop-s l = AreStepChains l.steps l.s l.chains.last.items l.chains.before.items
