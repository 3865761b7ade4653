use Rattle.scale_sites.proofs.CounterLaws.{AreFirst}
use Rattle.scale_sites.proofs.counting.first_uncountable.Given as goal

abbrev pub invariant-loop-e : goal.invariant-loop-e
invariant-loop-e l = AreFirst l.graph l.tree l.e l.first
