use Rattle.std.proofs.Common.{rules, ◌≡◌, None, replicate, length, ap, ◌∙◌, subst, arith}
use Rattle.std.proofs.lemmas.List.{length-replicate}
use Rattle.graph_algorithms.specs.Arcs.{number_in_place}
use Rattle.least_cycles.specs.Tables.{IsBefore, AreWalksOf}
use Rattle.least_cycles.specs.Charging.{own_by, AreChargedTo, loop_owner}
use Rattle.least_cycles.proofs.WalkLaws.{walks_first, walks_whole, none_before, zero_low}
use Rattle.least_cycles.proofs.LoopLaws.{charged_whole}
use Rattle.least_cycles.proofs.walks.walks_of.Goals as goal

pub loop-i-init : goal.loop-i-init
loop-i-init c =
    let v = c.args.graph.now in
    let none_r : c.in_ok-vec-2.field-0.items ≡ replicate c.node_count-nodes.result None = search rules in
    let none_x : c.in_ok-vec-3.field-0.items ≡ replicate c.node_count-nodes.result None = search rules in
    let zeros : c.in_ok-vec.field-0.items ≡ replicate c.loop_count.result 0 = c.in_ok-vec.ensures.items_if_clones_equal (λ y is. is) in
    record {
      scratch = c.in_ok-scratch.ensures;
      found = record {
        charges = record {
          entered = c.in_ok-entries_of.ensures;
          size = ap length zeros ∙ length-replicate c.loop_count.result 0 ∙ c.loop_count.ensures.count;
          low = λ l. zero_low c.in_ok-vec.field-0.items c.loop_count.result zeros l;
        };
        charged = λ n is k kl done. none_before v (loop_owner v c.args.tree.now k) done;
        walks = λ n is. walks_first v (own_by v c.args.tree.now (number_in_place c.args.plan.now.own.items) n) is.limit c.node_count-nodes.result c.in_ok-vec-2.field-0.items c.in_ok-vec-3.field-0.items c.node_count-nodes.ensures.count none_r none_x;
      };
    }

pub returns-clause-walks : goal.returns-clause-walks
returns-clause-walks c = λ n is.
    let v = c.args.graph.now in
    let size : length c.call_order-i-end.result.now ≡ length v.order = ap length c.call_order-i-end.ensures in
    let last : c.loop-i.i ≡ length v.order = omega arith in
    walks_whole v (own_by v c.args.tree.now (number_in_place c.args.plan.now.own.items) n) is.limit c.loop-i.found.walks.returns.items c.loop-i.found.walks.exits.items is.flow
    (subst (λ i. AreWalksOf v (own_by v c.args.tree.now (number_in_place c.args.plan.now.own.items) n) is.limit (IsBefore v i) c.loop-i.found.walks.returns.items c.loop-i.found.walks.exits.items) last (c.loop-i.invariant.found.walks n is))

pub returns-clause-charged : goal.returns-clause-charged
returns-clause-charged c = λ n is.
    let v = c.args.graph.now in
    let size : length c.call_order-i-end.result.now ≡ length v.order = ap length c.call_order-i-end.ensures in
    let last : c.loop-i.i ≡ length v.order = omega arith in
    charged_whole v c.args.tree.now (number_in_place c.args.plan.now.own.items) n is c.loop-i.found.charges.found.items
    (subst (λ i. AreChargedTo v c.args.tree.now n (λ k. IsBefore v i (loop_owner v c.args.tree.now k)) c.loop-i.found.charges.found.items) last (c.loop-i.invariant.found.charged n is))
