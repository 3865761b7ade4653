use Rattle.std.proofs.Common.{ℕ, refl, arith, below_more}
use Rattle.copy_checks.specs.Checked.{IsEdgeSo}
use Rattle.copy_checks.proofs.edges.are_edges_so.Goals as goal

pub loop-e-preserved : goal.loop-e-preserved
loop-e-preserved c = below_more (λ (e : ℕ). IsEdgeSo c.args.case.now e) c.loop-e.e c.loop-e.invariant (c.if-not-is_edge_so.ensures refl)

pub returns : goal.returns
returns c so e lt = c.loop-e.invariant e (let count = c.edge_count-e-end.ensures.count in let test = c.loop-e-test.false in omega (arith, lt, count, test))
