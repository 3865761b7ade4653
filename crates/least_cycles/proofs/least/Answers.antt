use Rattle.std.proofs.Common.{List, Option, ℕ, length, sym, ap, ◌∙◌, subst, arith}
use Rattle.graph_algorithms.specs.Arcs.{number_in_place}
use Rattle.loop_forest.specs.Tree.{loops}
use Rattle.least_cycles.specs.Hops.{number_in_table}
use Rattle.least_cycles.specs.Tables.{least_by}
use Rattle.least_cycles.specs.Charging.{charge_by}
use Rattle.least_cycles.specs.Found.{LeastView, IsLeastOf, AreSmallLeast, AreEndsTo, AreAfterTo}
use Rattle.least_cycles.proofs.EndLaws.{low_behind}
use Rattle.least_cycles.proofs.ChargeLaws.{small_charges}
use Rattle.least_cycles.proofs.FoundLaws.{own_is, has_charging, small_found, found, small}
use Rattle.least_cycles.proofs.least.Goals as goal

pub walks_of-requires-clause-charging : goal.walks_of-requires-clause-charging
walks_of-requires-clause-charging c =
    let t = c.requires.tree in
    has_charging c.args.graph.now c.args.tree.now t.0 c.args.weights.now c.in_ok-plan.plan.own.items c.node_count-nodes.ensures.graph t.1 c.requires.weights c.requires.calls c.requires.worst c.in_ok-plan.ensures.own

pub behinds_of-requires-clause-walks : goal.behinds_of-requires-clause-walks
behinds_of-requires-clause-walks c =
    let t = c.requires.tree in
    small_found c.args.graph.now c.args.tree.now (number_in_place c.in_ok-plan.plan.own.items) c.in_ok-walks.walks.returns.items c.in_ok-walks.walks.exits.items
    (has_charging c.args.graph.now c.args.tree.now t.0 c.args.weights.now c.in_ok-plan.plan.own.items c.node_count-nodes.ensures.graph t.1 c.requires.weights c.requires.calls c.requires.worst c.in_ok-plan.ensures.own) c.in_ok-walks.ensures.walks

pub ends_of-requires-clause-walks : goal.ends_of-requires-clause-walks
ends_of-requires-clause-walks c =
    let t = c.requires.tree in
    small_found c.args.graph.now c.args.tree.now (number_in_place c.in_ok-plan.plan.own.items) c.in_ok-walks.walks.returns.items c.in_ok-walks.walks.exits.items
    (has_charging c.args.graph.now c.args.tree.now t.0 c.args.weights.now c.in_ok-plan.plan.own.items c.node_count-nodes.ensures.graph t.1 c.requires.weights c.requires.calls c.requires.worst c.in_ok-plan.ensures.own) c.in_ok-walks.ensures.walks

pub ends_of-requires-clause-low : goal.ends_of-requires-clause-low
ends_of-requires-clause-low c = λ f x at.
    let few = c.function_count-functions.ensures.few in
    let count = c.function_count-functions.ensures.count in
    low_behind c.args.graph.now c.in_ok-walks.walks.returns.items c.in_ok-walks.walks.exits.items c.in_ok-behind.behind.items 0 c.node_count-nodes.ensures.graph (omega arith) c.in_ok-behind.ensures f x (ap (λ (t : List (Option ℕ)). number_in_table t f) (sym c.deref.ensures.value) ∙ at)

pub after_of-requires-clause-walks : goal.after_of-requires-clause-walks
after_of-requires-clause-walks c =
    let t = c.requires.tree in
    small_found c.args.graph.now c.args.tree.now (number_in_place c.in_ok-plan.plan.own.items) c.in_ok-walks.walks.returns.items c.in_ok-walks.walks.exits.items
    (has_charging c.args.graph.now c.args.tree.now t.0 c.args.weights.now c.in_ok-plan.plan.own.items c.node_count-nodes.ensures.graph t.1 c.requires.weights c.requires.calls c.requires.worst c.in_ok-plan.ensures.own) c.in_ok-walks.ensures.walks

pub after_of-requires-clause-low : goal.after_of-requires-clause-low
after_of-requires-clause-low c = λ f x at.
    let few = c.function_count-functions.ensures.few in
    let count = c.function_count-functions.ensures.count in
    low_behind c.args.graph.now c.in_ok-walks.walks.returns.items c.in_ok-walks.walks.exits.items c.in_ok-behind.behind.items 0 c.node_count-nodes.ensures.graph (omega arith) c.in_ok-behind.ensures f x (ap (λ (t : List (Option ℕ)). number_in_table t f) (sym c.deref-2.ensures.value) ∙ at)

pub after_of-requires-clause-charges : goal.after_of-requires-clause-charges
after_of-requires-clause-charges c = small_charges c.args.graph.now c.args.tree.now c.in_ok-walks.charges c.in_ok-walks.ensures.charges

pub returns-clause-least : goal.returns-clause-least
returns-clause-least c =
    let v = c.args.graph.now in
    let t = c.args.tree.now in
    let w = number_in_place c.in_ok-plan.plan.own.items in
    let returns = c.in_ok-walks.walks.returns.items in
    let exits = c.in_ok-walks.walks.exits.items in
    let charges = c.in_ok-walks.charges in
    let few = c.function_count-functions.ensures.few in
    let count = c.function_count-functions.ensures.count in
    let exist = has_charging v t c.requires.tree.0 c.args.weights.now c.in_ok-plan.plan.own.items c.node_count-nodes.ensures.graph c.requires.tree.1 c.requires.weights c.requires.calls c.requires.worst c.in_ok-plan.ensures.own in
    let nodes = subst (λ (b : List (Option ℕ)). AreEndsTo v (least_by v returns exits b) (length v.code.nodes) c.in_ok-ends.ends.items) c.deref.ensures.value c.in_ok-ends.ensures in
    let edges = subst (λ (b : List (Option ℕ)). AreAfterTo v (least_by v returns exits b) (charge_by charges.entries.items charges.found.items) (length v.code.edges) c.in_ok-after.after.items) c.deref-2.ensures.value c.in_ok-after.ensures in
    subst (λ (x : LeastView). IsLeastOf v (loops v t) (number_in_place c.args.weights.now) x) (sym c.from_parts.ensures)
    (subst (λ (ws : List ℕ). IsLeastOf v (loops v t) (number_in_place ws) (record { returns = returns; ends = c.in_ok-ends.ends.items; after = c.in_ok-after.after.items })) (own_is v c.args.weights.now c.in_ok-plan.plan.own.items c.requires.weights c.in_ok-plan.ensures.own)
    (found v t w charges returns exits c.in_ok-behind.behind.items c.in_ok-ends.ends.items c.in_ok-after.after.items exist.0 exist.1 (omega arith) c.in_ok-walks.ensures.walks c.in_ok-walks.ensures.charges (c.in_ok-walks.ensures.charged exist.0 exist.1) c.in_ok-behind.ensures nodes edges))

pub returns-clause-small : goal.returns-clause-small
returns-clause-small c =
    let v = c.args.graph.now in
    let t = c.args.tree.now in
    let w = number_in_place c.in_ok-plan.plan.own.items in
    let returns = c.in_ok-walks.walks.returns.items in
    let exits = c.in_ok-walks.walks.exits.items in
    let charges = c.in_ok-walks.charges in
    let few = c.function_count-functions.ensures.few in
    let count = c.function_count-functions.ensures.count in
    let exist = has_charging v t c.requires.tree.0 c.args.weights.now c.in_ok-plan.plan.own.items c.node_count-nodes.ensures.graph c.requires.tree.1 c.requires.weights c.requires.calls c.requires.worst c.in_ok-plan.ensures.own in
    let nodes = subst (λ (b : List (Option ℕ)). AreEndsTo v (least_by v returns exits b) (length v.code.nodes) c.in_ok-ends.ends.items) c.deref.ensures.value c.in_ok-ends.ensures in
    let edges = subst (λ (b : List (Option ℕ)). AreAfterTo v (least_by v returns exits b) (charge_by charges.entries.items charges.found.items) (length v.code.edges) c.in_ok-after.after.items) c.deref-2.ensures.value c.in_ok-after.ensures in
    subst (λ (x : LeastView). AreSmallLeast v x) (sym c.from_parts.ensures)
    (small v t w charges returns exits c.in_ok-behind.behind.items c.in_ok-ends.ends.items c.in_ok-after.after.items exist.0 exist.1 (omega arith) c.in_ok-walks.ensures.walks c.in_ok-walks.ensures.charges (c.in_ok-walks.ensures.charged exist.0 exist.1) c.in_ok-behind.ensures nodes edges)
