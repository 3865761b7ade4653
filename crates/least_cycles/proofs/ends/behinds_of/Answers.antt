use Rattle.std.proofs.Common.{rules, ◌≡◌, None, replicate, ◌+◌, ◌-◌, ◌<◌, ℕ, List, Option, Some, length, slice_get, slice_set, sym, ap, ◌∙◌, subst, arith}
use Rattle.std.proofs.lemmas.Option.{slice_get-get_or}
use Rattle.graph_algorithms.specs.Arcs.{number_in_place}
use Rattle.cost_theory.specs.Least.{IsLeastIfAny, end_after}
use Rattle.flow_graph.specs.FlowGraph.{graph}
use Rattle.least_cycles.specs.Hops.{number_in_table}
use Rattle.least_cycles.specs.Tables.{least_by}
use Rattle.least_cycles.specs.Ends.{AreBehind, IsBackTo}
use Rattle.least_cycles.proofs.EndLaws.{behind_none, behind_next, low_behind, next_low}
use Rattle.least_cycles.proofs.ends.behinds_of.Goals as goal

pub loop-i-init : goal.loop-i-init
loop-i-init c =
    let v = c.args.graph.now in
    let size : length v.order ≡ length c.call_order-order.result.now = sym (ap length c.call_order-order.ensures) in
    let none : c.in_ok-behind.behind.items ≡ replicate c.function_count.result None = search rules in
    record {
      within = omega arith;
      behind = subst (λ i. AreBehind v c.args.walks.now.returns.items c.args.walks.now.exits.items i c.in_ok-behind.behind.items) size
          (behind_none v c.args.walks.now.returns.items c.args.walks.now.exits.items c.in_ok-behind.behind.items c.function_count.result c.function_count.ensures.count none);
    }

pub behind_of-requires-clause-low : goal.behind_of-requires-clause-low
behind_of-requires-clause-low c = λ h x at.
    let v = c.args.graph.now in
    let few = c.function_count.ensures.few in
    let count = c.function_count.ensures.count in
    let low = low_behind v c.args.walks.now.returns.items c.args.walks.now.exits.items c.loop-i.behind.items c.loop-i.i c.requires.flow (omega arith) c.loop-i.invariant.behind h x (ap (λ (t : List (Option ℕ)). number_in_table t h) (sym c.deref.ensures.value) ∙ at) in
    omega arith

pub behind_of-requires-clause-function : goal.behind_of-requires-clause-function
behind_of-requires-clause-function c =
    let v = c.args.graph.now in
    let within = c.loop-i.invariant.within in
    let il : c.loop-i.i - 1 < length v.order = omega arith in
    subst (λ (order : List ℕ). number_in_place order (c.loop-i.i - 1) < length v.code.functions) (sym c.call_order-order.ensures)
    (c.requires.flow.order.within (c.loop-i.i - 1) (number_in_place v.order (c.loop-i.i - 1)) (slice_get-get_or v.order (c.loop-i.i - 1) 0 il))

pub index_mut-requires : goal.index_mut-requires
index_mut-requires c =
    let v = c.args.graph.now in
    let within = c.loop-i.invariant.within in
    let il : c.loop-i.i - 1 < length v.order = omega arith in
    let low : number_in_place c.call_order-order.result.now (c.loop-i.i - 1) < length v.code.functions = subst (λ (order : List ℕ). number_in_place order (c.loop-i.i - 1) < length v.code.functions) (sym c.call_order-order.ensures)
    (c.requires.flow.order.within (c.loop-i.i - 1) (number_in_place v.order (c.loop-i.i - 1)) (slice_get-get_or v.order (c.loop-i.i - 1) 0 il)) in
    let size = c.loop-i.invariant.behind.size in
    let ok = c.loop-i.behind.ok.0 in
    omega arith

pub loop-i-preserved : goal.loop-i-preserved
loop-i-preserved c =
    let v = c.args.graph.now in
    let returns = c.args.walks.now.returns.items in
    let exits = c.args.walks.now.exits.items in
    let within = c.loop-i.invariant.within in
    let j = c.loop-i.i - 1 in
    let il : c.loop-i.i - 1 < length v.order = omega arith in
    let up : c.loop-i.i ≡ c.loop-i.i - 1 + 1 = omega arith in
    let f = number_in_place v.order (c.loop-i.i - 1) in
    let at : slice_get v.order (c.loop-i.i - 1) ≡ Some f = slice_get-get_or v.order (c.loop-i.i - 1) 0 il in
    let are : AreBehind v returns exits (c.loop-i.i - 1 + 1) c.loop-i.behind.items = subst (λ i. AreBehind v returns exits i c.loop-i.behind.items) up c.loop-i.invariant.behind in
    let found : IsLeastIfAny (IsBackTo (graph v) (least_by v returns exits c.loop-i.behind.items) f) (end_after (graph v) (least_by v returns exits c.loop-i.behind.items)) c.behind_of.result =
    subst (λ (order : List ℕ). IsLeastIfAny (IsBackTo (graph v) (least_by v returns exits c.loop-i.behind.items) (number_in_place order (c.loop-i.i - 1))) (end_after (graph v) (least_by v returns exits c.loop-i.behind.items)) c.behind_of.result) c.call_order-order.ensures
    (subst (λ (b : List (Option ℕ)). IsLeastIfAny (IsBackTo (graph v) (least_by v returns exits b) (number_in_place c.call_order-order.result.now (c.loop-i.i - 1))) (end_after (graph v) (least_by v returns exits b)) c.behind_of.result) c.deref.ensures.value c.behind_of.ensures) in
    record {
      within = omega arith;
      behind = subst (λ (order : List ℕ). AreBehind v returns exits (c.loop-i.i - 1) (slice_set c.loop-i.behind.items (number_in_place order (c.loop-i.i - 1)) c.behind_of.result)) (sym c.call_order-order.ensures)
          (behind_next v returns exits c.loop-i.behind.items (c.loop-i.i - 1) f c.behind_of.result c.requires.flow at are
          (next_low v returns exits c.loop-i.behind.items (c.loop-i.i - 1) f c.behind_of.result il c.requires.walks are found) found);
    }

pub returns : goal.returns
returns c =
    let zero : c.loop-i.i ≡ 0 = omega arith in
    subst (λ i. AreBehind c.args.graph.now c.args.walks.now.returns.items c.args.walks.now.exits.items i c.loop-i.behind.items) zero c.loop-i.invariant.behind
