use Rattle.std.proofs.Common.{ℕ, ◌<◌}
use Rattle.bound_laws.specs.Values.{IsRegister}
use Rattle.walk_areas.specs.Walking.{IsBegun}
use Rattle.walk_areas.specs.Walking.Place.{in_register}
use Rattle.walk_checks.specs.Walked.{at_of, cert}
use Rattle.walk_checks.proofs.shown.are_rows_begun.Given as goal

abbrev pub invariant-loop-r : goal.invariant-loop-r
invariant-loop-r l = (r : ℕ) → IsRegister r → r < l.r → IsBegun (cert l.case) (in_register r) ((cert l.case).row (at_of l.case l.case.header) r)
