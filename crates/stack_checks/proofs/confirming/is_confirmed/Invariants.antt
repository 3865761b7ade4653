use Rattle.std.proofs.Common.{ℕ, ◌<◌}
use Rattle.flow_graph.specs.FlowGraph.{graph}
use Rattle.stack_tables.specs.Tables.{stacks_in, text_in, values_in}
use Rattle.stack_checks.specs.Checked.{IsEdgeChecked}
use Rattle.stack_checks.proofs.confirming.is_confirmed.Given as goal

abbrev pub invariant-loop-e : goal.invariant-loop-e
invariant-loop-e l = (e : ℕ) → e < l.e → IsEdgeChecked (text_in l.claim) (graph l.claim.graph.now) (values_in l.claim) (stacks_in l.claim) e
