use Rattle.std.proofs.Common.{◌≡◌, arith}
use Rattle.foreign_scan.proofs.ReadLaws.{same_some}
use Rattle.foreign_scan.proofs.reading.exit_at.Goals as goal

pub returns-in_err-shift : goal.returns-in_err-shift
returns-in_err-shift c = λ counter shift table s. absurd (let e = c.in_err-shift.ensures counter shift table s.foreign.1 s.code in cc)

pub returns : goal.returns
returns c =
    λ counter shift table s.
    let a : c.in_ok-counter.counter ≡ counter = same_some _ _ (c.in_ok-counter.ensures counter shift table (omega (arith, s.foreign.0.1)) s.code) in
    let b : c.in_ok-shift.shift ≡ shift = same_some _ _ (c.in_ok-shift.ensures counter shift table s.foreign.1 s.code) in
    let d : c.in_ok-table.table ≡ table = same_some _ _ (c.in_ok-table.ensures counter shift table s.foreign.2 s.code) in
    rw (a, b, d)
