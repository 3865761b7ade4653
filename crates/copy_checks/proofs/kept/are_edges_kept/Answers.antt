use Rattle.std.proofs.Common.{ℕ, refl, arith, below_more}
use Rattle.copy_checks.specs.Checked.{IsKeptSo}
use Rattle.copy_checks.proofs.kept.are_edges_kept.Goals as goal

pub loop-e-preserved : goal.loop-e-preserved
loop-e-preserved c = below_more (λ (e : ℕ). IsKeptSo c.args.code.now c.args.meant.now e) c.loop-e.e c.loop-e.invariant (c.if-not-is_edge_kept.ensures refl)

pub returns : goal.returns
returns c so e lt = c.loop-e.invariant e (let count = c.edge_count-e-end.ensures.count in let test = c.loop-e-test.false in omega (arith, lt, count, test))
