use Rattle.graph_algorithms.proofs.ChainLaws.{AreChainsBelow}
use Rattle.graph_algorithms.proofs.chains.find_chains.Given as goal

abbrev pub invariant-loop-place : goal.invariant-loop-place
invariant-loop-place l = AreChainsBelow l.keys l.count l.place l.last.items l.before.items
