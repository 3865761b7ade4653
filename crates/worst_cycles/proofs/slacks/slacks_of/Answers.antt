use Rattle.std.proofs.Common.{◌≡◌, ℕ, ◌+◌, ◌<◌, [], ◌∷◌, ◌++◌, length, length-append, arith, sym, ap, subst}
use Rattle.graph_algorithms.specs.Arcs.{number_in_place}
use Rattle.flow_graph.specs.FlowGraph.{graph}
use Rattle.loop_forest.specs.Tree.{loops}
use Rattle.worst_cycles.specs.Worst.{by_edge, slack_at}
use Rattle.worst_cycles.proofs.TableLaws.{placed_more}
use Rattle.worst_cycles.proofs.slacks.slacks_of.Goals as goal

pub loop-e-preserved : goal.loop-e-preserved
loop-e-preserved c =
    let items : c.push.new.self.items ≡ c.loop-e.slacks.items ++ c.slack_of.result ∷ [] = c.in_ok-push.ensures.items in
    let longer : length c.push.new.self.items ≡ length (c.loop-e.slacks.items ++ c.slack_of.result ∷ []) = ap length items in
    let more : length (c.loop-e.slacks.items ++ c.slack_of.result ∷ []) ≡ length c.loop-e.slacks.items + 1 = length-append c.loop-e.slacks.items (c.slack_of.result ∷ []) in
    let size = c.loop-e.invariant.size in
    record {
      size = let r : length c.push.new.self.items ≡ c.loop-e.e + 1 = omega arith in r;
      each = λ n s. subst (λ xs. (d : ℕ) → d < c.loop-e.e + 1 → number_in_place xs d ≡ slack_at (graph c.args.visited.now.planned.graph.now) (loops c.args.visited.now.planned.graph.now c.args.visited.now.planned.tree.now) (by_edge c.args.visited.now.planned.weights.now) n d) (sym items)
          (placed_more c.loop-e.slacks.items c.slack_of.result c.loop-e.e (λ d. slack_at (graph c.args.visited.now.planned.graph.now) (loops c.args.visited.now.planned.graph.now c.args.visited.now.planned.tree.now) (by_edge c.args.visited.now.planned.weights.now) n d)
          size (c.loop-e.invariant.each n s) (c.slack_of.ensures n s));
    }
