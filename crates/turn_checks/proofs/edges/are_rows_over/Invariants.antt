use Rattle.std.proofs.Common.{ℕ, ◌<◌}
use Rattle.bound_laws.specs.Values.{IsRegister}
use Rattle.stack_tables.specs.Tables.{stacks_in, values_in}
use Rattle.turn_laws.specs.Relating.{IsRowOn}
use Rattle.turn_checks.specs.Turned.{at_of, cert}
use Rattle.turn_checks.proofs.edges.are_rows_over.Given as goal

abbrev pub invariant-loop-r : goal.invariant-loop-r
invariant-loop-r l = (r : ℕ) → IsRegister r → r < l.r → IsRowOn (values_in l.case.claim.now) (stacks_in l.case.claim.now) (cert l.case) (at_of l.case l.step.from) l.step.instr (at_of l.case l.step.to) r ((cert l.case).row (at_of l.case l.step.to) r)
