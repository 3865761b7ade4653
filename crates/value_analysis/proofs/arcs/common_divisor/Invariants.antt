use Rattle.value_analysis.proofs.arcs.common_divisor.Given as goal

abbrev pub decreases-loop-b : goal.decreases-loop-b
decreases-loop-b l = l.b
