use Rattle.stack_checks.proofs.telling.is_some_handed.Given as goal

abbrev pub invariant-loop-z : goal.invariant-loop-z
invariant-loop-z l = Unit {0}
