use Rattle.std.proofs.Common.{◌≡◌, ℕ, ◌<◌, List, Option, length, subst}
use Rattle.flow_graph.specs.FlowGraph.{graph}
use Rattle.worst_walks.specs.Tallies.{IsTally, key_at, outside_of}
use Rattle.worst_walks.proofs.own.own_cycles.Goals as goal

pub returns : goal.returns
returns c =
    let loops_are = rw c.in-Some.is at c.in_ok-loops.ensures in
    let functions_are = rw c.in-Some-2.is at c.in_ok-functions.ensures in
    record {
      inner = c.in_ok-inner.inner.items;
      outside = c.in_ok-outside.outside.items;
      inner_size = c.in_ok-inner.ensures.size;
      inner_is = c.in_ok-inner.ensures.each;
      outside_size = c.in_ok-outside.ensures.size;
      outside_is = subst (λ (xs : List (Option ℕ)). (e : ℕ) → e < length c.args.graph.now.code.edges → key_at c.in_ok-outside.outside.items e ≡ outside_of ((graph c.args.graph.now).owner ((graph c.args.graph.now).source e)) (key_at xs e)) c.deref.ensures.value c.in_ok-outside.ensures.each;
      loops_are = subst (λ n. IsTally n c.in_ok-inner.inner.items c.args.taken.now c.args.wide.now c.in-Some.loops.items) c.loop_count.ensures.count
          (subst (λ (keys : List (Option ℕ)). IsTally c.loop_count.result keys c.args.taken.now c.args.wide.now c.in-Some.loops.items) c.deref-2.ensures.value loops_are);
      functions_are = subst (λ n. IsTally n c.in_ok-outside.outside.items c.args.taken.now c.args.wide.now c.in-Some-2.functions.items) c.function_count.ensures.count
          (subst (λ (keys : List (Option ℕ)). IsTally c.function_count.result keys c.args.taken.now c.args.wide.now c.in-Some-2.functions.items) c.deref-3.ensures.value functions_are);
    }
