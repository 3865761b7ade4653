use Rattle.std.proofs.Common.{sym, ◌∙◌}
use Rattle.flow_graph.specs.FlowGraph.{graph}
use Rattle.loop_forest.specs.Noted.{node_address}
use Rattle.least_cycles.proofs.PriceLaws.{led_to, never_last}
use Rattle.least_cycles.proofs.prices.is_last.Goals as goal

pub returns-in-Some : goal.returns-in-Some
returns-in-Some c =
    let v = c.args.graph.now in
    never_last ((graph v).exits c.args.e) ((graph v).target c.args.e) (node_address v c.in-Some.field-0) c.args.exits_in_call (sym c.is_exit.ensures ∙ c.if-is_exit.false)
    (led_to v c.args.e c.in-Some.field-0 (c.target.ensures.some c.in-Some.field-0 c.in-Some.is) (c.target.ensures.within c.in-Some.field-0 c.in-Some.is))
