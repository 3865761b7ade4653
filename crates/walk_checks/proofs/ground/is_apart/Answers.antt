use Rattle.std.proofs.Common.{ℕ, refl, below_more}
use Rattle.walk_checks.specs.Walked.{IsApartAt}
use Rattle.walk_checks.proofs.ground.is_apart.Goals as goal

pub loop-j-preserved : goal.loop-j-preserved
loop-j-preserved c = below_more (λ (j : ℕ). IsApartAt c.args.table.now c.args.k c.args.x j) c.loop-j.j c.loop-j.invariant (c.if-not-is_apart_at.ensures refl)
