use Rattle.std.proofs.Common.{◌≡◌, ℕ, ◌+◌, ◌<◌, [], ◌∷◌, ◌++◌, length, length-append, sym, ap, ◌∙◌, subst}
use Rattle.graph_algorithms.specs.Arcs.{number_in_place}
use Rattle.flow_graph.specs.FlowGraph.{graph}
use Rattle.loop_forest.specs.Tree.{loops}
use Rattle.worst_cycles.specs.Worst.{rest_at}
use Rattle.worst_cycles.proofs.TableLaws.{placed_more}
use Rattle.worst_cycles.proofs.slacks.rests_behind.Goals as goal

pub loop-e-preserved : goal.loop-e-preserved
loop-e-preserved c =
    let items : c.push.new.self.items ≡ c.loop-e.rests.items ++ c.rest_of.result ∷ [] = c.in_ok-push.ensures.items in
    let size : length c.loop-e.rests.items ≡ c.loop-e.e = c.loop-e.invariant.size in
    record {
      size = ap length items ∙ length-append c.loop-e.rests.items (c.rest_of.result ∷ []) ∙ ap (λ n. n + 1) size;
      each = λ n s. subst (λ xs. (d : ℕ) → d < c.loop-e.e + 1 → number_in_place xs d ≡ rest_at (graph c.args.visited.now.planned.graph.now) (loops c.args.visited.now.planned.graph.now c.args.visited.now.planned.tree.now) n d) (sym items)
          (placed_more c.loop-e.rests.items c.rest_of.result c.loop-e.e (λ d. rest_at (graph c.args.visited.now.planned.graph.now) (loops c.args.visited.now.planned.graph.now c.args.visited.now.planned.tree.now) n d) size (c.loop-e.invariant.each n s) (c.rest_of.ensures n s));
    }
