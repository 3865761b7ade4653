use Rattle.stack_checks.proofs.areas.is_span_in_some.Given as goal

abbrev pub invariant-loop-area : goal.invariant-loop-area
invariant-loop-area l = Unit {0}
