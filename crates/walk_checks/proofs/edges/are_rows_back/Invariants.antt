use Rattle.std.proofs.Common.{ℕ, ◌<◌}
use Rattle.bound_laws.specs.Values.{IsRegister}
use Rattle.stack_tables.specs.Tables.{stacks_in, text_in, values_in}
use Rattle.walk_areas.specs.Walking.{IsRowBack}
use Rattle.walk_checks.specs.Walked.{at_of, cert}
use Rattle.walk_checks.proofs.edges.are_rows_back.Given as goal

abbrev pub invariant-loop-r : goal.invariant-loop-r
invariant-loop-r l = (r : ℕ) → IsRegister r → r < l.r → IsRowBack (text_in l.case.claim.now) (values_in l.case.claim.now) (stacks_in l.case.claim.now) (cert l.case) (at_of l.case l.call.from) (at_of l.case l.call.entry) r ((cert l.case).row (at_of l.case l.n) r)
