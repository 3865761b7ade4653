use Rattle.std.proofs.Common.{ℕ, ◌<◌}
use Rattle.bound_laws.specs.Values.{IsRegister}
use Rattle.stack_tables.specs.Tables.{stacks_in, values_in}
use Rattle.walk_areas.specs.Walking.{IsRowOver}
use Rattle.walk_checks.specs.Walked.{at_of, cert}
use Rattle.walk_checks.proofs.edges.are_rows_over.Given as goal

abbrev pub invariant-loop-r : goal.invariant-loop-r
invariant-loop-r l = (r : ℕ) → IsRegister r → r < l.r → IsRowOver (values_in l.case.claim.now) (stacks_in l.case.claim.now) (cert l.case) (at_of l.case l.step.from) l.step.instr r ((cert l.case).row (at_of l.case l.step.to) r)
