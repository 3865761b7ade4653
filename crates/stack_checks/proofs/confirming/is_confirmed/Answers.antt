use Rattle.std.proofs.Common.{ℕ, refl, arith, below_more}
use Rattle.flow_graph.specs.FlowGraph.{graph}
use Rattle.stack_tables.specs.Tables.{stacks_in, text_in, values_in}
use Rattle.stack_checks.specs.Checked.{IsEdgeChecked}
use Rattle.stack_checks.proofs.Confirmed.{invariant_of}
use Rattle.stack_checks.proofs.confirming.is_confirmed.Goals as goal

pub loop-e-preserved : goal.loop-e-preserved
loop-e-preserved c = below_more (λ (e : ℕ). IsEdgeChecked (text_in c.args.claim.now) (graph c.args.claim.now.graph.now) (values_in c.args.claim.now) (stacks_in c.args.claim.now) e) c.loop-e.e c.loop-e.invariant (c.if-not-is_edge_checked.ensures refl)

pub returns : goal.returns
returns c so = invariant_of c.args.claim.now c.requires (λ e lt. c.loop-e.invariant e (let count = c.edge_count-e-end.ensures.count in let test = c.loop-e-test.false in omega (arith, lt, count, test)))
