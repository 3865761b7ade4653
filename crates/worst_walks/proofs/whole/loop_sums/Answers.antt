use Rattle.std.proofs.Common.{◌≡◌, ℕ, List, Option, length, ap, ◌∙◌, subst}
use Rattle.cost_theory.specs.Graph.{total}
use Rattle.cost_theory.specs.Lists.{body_of}
use Rattle.graph_algorithms.specs.Arcs.{number_in_place}
use Rattle.worst_cycles.specs.Worst.{by_edge}
use Rattle.worst_walks.specs.Tallies.{IsTally}
use Rattle.worst_walks.specs.Whole.{body_taken}
use Rattle.worst_walks.proofs.WholeLaws.{body_sum, sums_are}
use Rattle.worst_walks.proofs.whole.loop_sums.Goals as goal

pub returns-clause-each : goal.returns-clause-each
returns-clause-each c =
    let v = c.args.known.now.graph.now in
    let t = c.args.known.now.tree.now in
    let w = by_edge c.args.known.now.weights.now in
    let table = c.args.known.now.worst.now.worst in
    let cost_is = rw c.in-Some.is at c.in_ok-costs.ensures.each in
    let found = rw c.in-Some-2.is at c.in_ok-by_node.ensures in
    let tally = subst (λ n. IsTally n c.in_ok-nodes.nodes.items c.args.taken.now c.in-Some.costs.items c.in-Some-2.by_node.items) c.node_count.ensures.count
    (subst (λ (keys : List (Option ℕ)). IsTally c.node_count.result keys c.args.taken.now c.in-Some.costs.items c.in-Some-2.by_node.items) c.deref.ensures.value
    (subst (λ (costs : List ℕ). IsTally c.node_count.result c.deref.result.now c.args.taken.now costs c.in-Some-2.by_node.items) c.deref-2.ensures.value found)) in
    sums_are c.body_sums.result (length t.headers) (λ k. total (number_in_place c.deref-3.result.now) (body_of t.bodies k)) (body_taken v t w table c.args.taken.now)
    (λ k kl. ap (λ (xs : List ℕ). total (number_in_place xs) (body_of t.bodies k)) c.deref-3.ensures.value ∙
    body_sum v t c.requires.known.tree.0 c.node_count-nodes.ensures.graph c.requires.known.tree.1 w table c.args.taken.now c.in-Some.costs.items c.in-Some-2.by_node.items c.in_ok-nodes.nodes.items k kl
    c.in_ok-nodes.ensures.size c.in_ok-nodes.ensures.each cost_is tally)
    c.body_sums.ensures.each
