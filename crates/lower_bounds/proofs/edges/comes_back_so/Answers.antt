use Rattle.std.proofs.Common.{◌≡◌, ℕ, true, refl}
use Rattle.loop_file.specs.Kept.{in_extent}
use Rattle.lower_bounds.specs.LowerTables.{at_of}
use Rattle.lower_bounds.proofs.Cases.{led_so}
use Rattle.lower_bounds.proofs.edges.comes_back_so.Goals as goal

pub returns-in-Some-Some : goal.returns-in-Some-Some
returns-in-Some-Some c so f b callee at = led_so (λ (y : ℕ). y ≡ c.args.case.now.note.now.header → in_extent c.args.case.now.note.now (at_of c.args.case.now c.args.k) ≡ true) c.args.case.now.claim.now c.args.e c.in-Some-Some.n (c.in-Some-Some.ensures'.some c.in-Some-Some.n refl) (c.is_back_so.ensures so) b at
