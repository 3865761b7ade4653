use Rattle.loop_tree.proofs.HeaderLaws.{ArePairs}
use Rattle.loop_tree.proofs.natural.headers.least_pair.Given as goal

abbrev pub invariant-loop-k : goal.invariant-loop-k
invariant-loop-k l = ArePairs l.headers l.count l.k l.firsts.items l.least
