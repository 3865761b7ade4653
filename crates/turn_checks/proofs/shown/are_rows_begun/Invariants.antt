use Rattle.std.proofs.Common.{ℕ, ◌<◌, ◌≡◌, ◌⊎◌}
use Rattle.bound_laws.specs.Values.{IsRegister}
use Rattle.turn_laws.specs.Relating.{IsBegun}
use Rattle.turn_laws.specs.Relating.Relation.{unknown}
use Rattle.turn_laws.specs.Relating.Place.{in_register}
use Rattle.turn_checks.specs.Turned.{at_of, cert, place_view}
use Rattle.turn_checks.proofs.shown.are_rows_begun.Given as goal

abbrev pub invariant-loop-r : goal.invariant-loop-r
invariant-loop-r l = (r : ℕ) → IsRegister r → r < l.r → ((cert l.case).row (at_of l.case l.case.header) r ≡ unknown) ⊎ ((place_view l.case.table.now.place ≡ in_register r) × IsBegun ((cert l.case).row (at_of l.case l.case.header) r))
