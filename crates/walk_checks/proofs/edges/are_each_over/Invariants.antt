use Rattle.std.proofs.Common.{ℕ, ◌<◌, get_or, Some}
use Rattle.stack_tables.specs.Tables.{stacks_in, values_in}
use Rattle.walk_areas.specs.Walking.{IsWordOver}
use Rattle.walk_checks.specs.declared.tables.WordTrace.{WordTrace}
use Rattle.walk_checks.specs.Walked.{at_of, cert, trace_view}
use Rattle.walk_checks.proofs.edges.are_each_over.Given as goal

abbrev pub invariant-loop-word : goal.invariant-loop-word
invariant-loop-word l = (j : ℕ) (other : WordTrace) → j < l.word-index → IsWordOver (values_in l.case.claim.now) (stacks_in l.case.claim.now) (cert l.case) (at_of l.case l.step.from) l.step.instr (get_or l.row j other).number (Some (trace_view (get_or l.row j other).trace))
