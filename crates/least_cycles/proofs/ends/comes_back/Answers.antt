use Rattle.std.proofs.Common.{sym, ap, ◌∙◌}
use Rattle.flow_graph.specs.FlowGraph.{graph}
use Rattle.least_cycles.specs.Tables.{back_from}
use Rattle.least_cycles.proofs.PriceLaws.{led_to}
use Rattle.least_cycles.proofs.ends.comes_back.Goals as goal

pub returns-in-Some : goal.returns-in-Some
returns-in-Some c =
    let v = c.args.graph.now in
    c.callee.ensures ∙ sym (ap (λ t. back_from t ((graph v).callee c.args.e)) (led_to v c.args.e c.in-Some.field-0 (c.target.ensures.some c.in-Some.field-0 c.in-Some.is) (c.target.ensures.within c.in-Some.field-0 c.in-Some.is)))
