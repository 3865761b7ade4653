use Rattle.std.proofs.Common.{ℕ, refl, arith, below_more}
use Rattle.copy_checks.specs.Checked.{IsApart}
use Rattle.copy_checks.proofs.edges.are_apart.Goals as goal

pub loop-k-preserved : goal.loop-k-preserved
loop-k-preserved c = below_more (λ (k : ℕ). IsApart c.args.case.now k) c.loop-k.k c.loop-k.invariant (c.if-not-is_apart.ensures refl)

pub returns : goal.returns
returns c so k lt = c.loop-k.invariant k (let count = c.node_count-k-end.ensures.count in let test = c.loop-k-test.false in omega (arith, lt, count, test))
