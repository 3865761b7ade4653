use Rattle.std.proofs.Common.{ℕ, refl, below_more}
use Rattle.walk_checks.specs.Walked.{IsApart}
use Rattle.walk_checks.proofs.ground.are_apart.Goals as goal

pub loop-k-preserved : goal.loop-k-preserved
loop-k-preserved c = below_more (λ (k : ℕ). IsApart c.args.table.now k) c.loop-k.k c.loop-k.invariant (c.if-not-is_apart_from_all.ensures refl)
