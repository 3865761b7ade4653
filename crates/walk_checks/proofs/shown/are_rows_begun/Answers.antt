use Rattle.std.proofs.Common.{ℕ, refl, arith}
use Rattle.walk_areas.specs.Walking.{IsBegun}
use Rattle.walk_areas.specs.Walking.Place.{in_register}
use Rattle.walk_checks.specs.Walked.{at_of, cert, traced_view}
use Rattle.walk_checks.proofs.Cases.{begun_seen, each_register, register_more}
use Rattle.walk_checks.proofs.shown.are_rows_begun.Goals as goal

pub loop-r-preserved : goal.loop-r-preserved
loop-r-preserved c = register_more (λ (x : ℕ). IsBegun (cert c.args.case.now) (in_register x) ((cert c.args.case.now).row (at_of c.args.case.now c.args.case.now.header) x))
    c.loop-r.r c.loop-r.invariant (begun_seen c.args.case.now (in_register c.loop-r.r) (traced_view c.row_at.result) _ c.row_at.ensures (c.if-not-is_begun.ensures refl))

pub returns : goal.returns
returns c so = each_register (λ (x : ℕ). IsBegun (cert c.args.case.now) (in_register x) ((cert c.args.case.now).row (at_of c.args.case.now c.args.case.now.header) x))
    c.loop-r.r (let test = c.loop-r-test.false in omega (arith, test)) c.loop-r.invariant
