use Rattle.stack_checks.proofs.dwindling.is_some_divided.Given as goal

abbrev pub invariant-loop-z : goal.invariant-loop-z
invariant-loop-z l = Unit {0}
