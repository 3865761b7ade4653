use Rattle.std.proofs.Common.{ℕ, refl, arith, below_more}
use Rattle.flow_graph.specs.FlowGraph.{graph}
use Rattle.walk_checks.specs.Walked.{IsEdgeWalked}
use Rattle.walk_checks.proofs.shown.are_edges_walked.Goals as goal

pub loop-e-preserved : goal.loop-e-preserved
loop-e-preserved c = below_more (λ (e : ℕ). IsEdgeWalked c.args.case.now (graph c.args.case.now.claim.now.graph.now) e) c.loop-e.e c.loop-e.invariant (c.if-not-is_edge_walked.ensures refl)

pub returns : goal.returns
returns c so e lt = c.loop-e.invariant e (let count = c.edge_count-e-end.ensures.count in let test = c.loop-e-test.false in omega (arith, lt, count, test))
