use Rattle.stack_checks.proofs.accesses.all_common.Given as goal

abbrev pub invariant-loop-area : goal.invariant-loop-area
invariant-loop-area l = Unit {0}
