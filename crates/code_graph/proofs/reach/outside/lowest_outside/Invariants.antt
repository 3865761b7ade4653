use Rattle.code_graph.specs.Outside.{IsLowest, IsOutsideOf, IsComeTo}
use Rattle.code_graph.proofs.reach.outside.lowest_outside.Given as goal

abbrev pub invariant-loop-k : goal.invariant-loop-k
invariant-loop-k l = IsLowest (λ u. IsComeTo l.words l.returning l.marks l.entry l.k u × IsOutsideOf l.words u) l.lowest
