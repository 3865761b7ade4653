use Rattle.std.proofs.Common.{ℕ, ◌≡◌, ◌⊎◌, refl, arith}
use Rattle.turn_laws.specs.Relating.{IsBegun}
use Rattle.turn_laws.specs.Relating.Relation.{unknown}
use Rattle.turn_laws.specs.Relating.Place.{in_register}
use Rattle.turn_checks.specs.Turned.{at_of, cert, place_view}
use Rattle.turn_checks.proofs.Cases.{each_register, register_more}
use Rattle.turn_checks.proofs.shown.are_rows_begun.Goals as goal

pub loop-r-preserved : goal.loop-r-preserved
loop-r-preserved c = register_more (λ (x : ℕ). ((cert c.args.case.now).row (at_of c.args.case.now c.args.case.now.header) x ≡ unknown) ⊎ ((place_view c.args.case.now.table.now.place ≡ in_register x) × IsBegun ((cert c.args.case.now).row (at_of c.args.case.now c.args.case.now.header) x)))
    c.loop-r.r c.loop-r.invariant (c.if-not-is_row_begun.ensures refl)

pub returns : goal.returns
returns c so = each_register (λ (x : ℕ). ((cert c.args.case.now).row (at_of c.args.case.now c.args.case.now.header) x ≡ unknown) ⊎ ((place_view c.args.case.now.table.now.place ≡ in_register x) × IsBegun ((cert c.args.case.now).row (at_of c.args.case.now c.args.case.now.header) x)))
    c.loop-r.r (let test = c.loop-r-test.false in omega (arith, test)) c.loop-r.invariant
