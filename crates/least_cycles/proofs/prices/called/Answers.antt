use Rattle.std.proofs.Common.{◌≡◌, Some, [], sym, ◌∙◌}
use Rattle.flow_graph.specs.FlowGraph.{graph}
use Rattle.loop_forest.specs.Noted.{node_address}
use Rattle.least_cycles.specs.Tables.{least_by}
use Rattle.least_cycles.proofs.TableLaws.{called_back}
use Rattle.least_cycles.proofs.PriceLaws.{led_to, not_both}
use Rattle.least_cycles.proofs.prices.called.Goals as goal

pub returns-in-Some-clause-cost : goal.returns-in-Some-clause-cost
returns-in-Some-clause-cost c =
    let v = c.args.graph.now in
    let to = led_to v c.args.e c.in-Some.field-0 (c.target.ensures.some c.in-Some.field-0 c.in-Some.is) (c.target.ensures.within c.in-Some.field-0 c.in-Some.is) in
    called_back (graph v) (least_by v c.args.returns.now c.args.exits.now []) c.args.e c.in_ok-f.f (node_address v c.in-Some.field-0) c.at_entry.result (let calls : (graph v).callee c.args.e ≡ Some c.in_ok-f.f = sym c.callee.ensures ∙ c.in_ok-f.was in calls) to c.at_entry.ensures

pub returns-in-Some-clause-exit : goal.returns-in-Some-clause-exit
returns-in-Some-clause-exit c = λ none some.
    let v = c.args.graph.now in
    absurd (not_both ((graph v).target c.args.e) (node_address v c.in-Some.field-0) (led_to v c.args.e c.in-Some.field-0 (c.target.ensures.some c.in-Some.field-0 c.in-Some.is) (c.target.ensures.within c.in-Some.field-0 c.in-Some.is)) none)

pub returns-in-Some-clause-whole : goal.returns-in-Some-clause-whole
returns-in-Some-clause-whole c = λ f none calls some.
    let v = c.args.graph.now in
    absurd (not_both ((graph v).target c.args.e) (node_address v c.in-Some.field-0) (led_to v c.args.e c.in-Some.field-0 (c.target.ensures.some c.in-Some.field-0 c.in-Some.is) (c.target.ensures.within c.in-Some.field-0 c.in-Some.is)) none)
