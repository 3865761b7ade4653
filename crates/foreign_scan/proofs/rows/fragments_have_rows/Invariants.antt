use Rattle.std.proofs.Common.{◌≡◌, true, take}
use Rattle.foreign_scan.specs.Rows.{all_have_rows}
use Rattle.foreign_scan.proofs.rows.fragments_have_rows.Given as goal

abbrev pub invariant-loop-fragment : goal.invariant-loop-fragment
invariant-loop-fragment l = all_have_rows l.view l.limits (take l.fragment-index l.fragments) ≡ true
