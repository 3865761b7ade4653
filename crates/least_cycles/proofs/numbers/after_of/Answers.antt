use Rattle.std.proofs.Common.{◌+◌, ◌^◌, List, Option, ℕ, sym, ap, ◌∙◌, subst, arith}
use Rattle.flow_graph.specs.FlowGraph.{graph}
use Rattle.least_cycles.specs.Tables.{least_by}
use Rattle.least_cycles.specs.Charging.{charge_by}
use Rattle.least_cycles.specs.Found.{AreAfterTo, plus_charge}
use Rattle.least_cycles.proofs.EndLaws.{end_low}
use Rattle.least_cycles.proofs.FoundLaws.{after_more, end_small}
use Rattle.least_cycles.proofs.numbers.after_of.Goals as goal

pub charged-requires : goal.charged-requires
charged-requires c = λ x at.
    let v = c.args.graph.now in
    let n = least_by v c.args.walks.now.returns.items c.args.walks.now.exits.items c.args.behind.now in
    let low = end_small n (2 ^ 67 + 2 ^ 84) (λ a y is. end_low v c.args.walks.now.returns.items c.args.walks.now.exits.items c.args.behind.now (2 ^ 84) c.requires.walks c.requires.low a y is) ((graph v).target c.loop-e.e) c.end_over-end.result c.end_over-end.ensures x at in
    omega arith

pub loop-e-preserved : goal.loop-e-preserved
loop-e-preserved c =
    let v = c.args.graph.now in
    let n = least_by v c.args.walks.now.returns.items c.args.walks.now.exits.items c.args.behind.now in
    let charge = charge_by c.args.charges.now.entries.items c.args.charges.now.found.items in
    subst (λ (after : List (Option ℕ)). AreAfterTo v n charge (c.loop-e.e + 1) after) (sym c.in_ok-push.ensures.items)
    (after_more v n charge c.loop-e.e c.loop-e.after.items c.charged.result c.loop-e.invariant (c.charged.ensures ∙ ap (λ x. plus_charge x c.end_over-end.result) c.over.ensures ∙ ap (plus_charge (charge c.loop-e.e)) c.end_over-end.ensures))
