use Rattle.foreign_scan.proofs.GlueLaws.{ok_then}
use Rattle.foreign_scan.proofs.list_scan.scan_lists.Goals as goal

pub returns-in-Some : goal.returns-in-Some
returns-in-Some c = let h = rw c.in-Some.is at c.in_ok-why.ensures.why in λ code l all. h code l all.nodes

pub returns-in-None : goal.returns-in-None
returns-in-None c = let h = rw c.in-None.is at c.in_ok-why.ensures.none in ok_then c.scan_stubs.result c.scan_stubs.ensures (λ scanned f code l all. f code l all (h code all.nodes))
