use Rattle.std.proofs.Common.{◌≡◌, ℕ, ◌<◌, true, Some}
use Rattle.std.specs.Prelude.{slice_get}
use Rattle.foreign_scan.specs.declared.site.Site.{Site}
use Rattle.foreign_scan.specs.Rows.{is_sound}
use Rattle.foreign_scan.proofs.rows.first_unsound.Given as goal

abbrev pub invariant-loop-k : goal.invariant-loop-k
invariant-loop-k l = (j : ℕ) (site : Site) → j < l.k → slice_get l.sites j ≡ Some site → is_sound l.view l.limits site ≡ true
