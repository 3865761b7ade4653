use Rattle.std.proofs.Common.{◌≡◌, ℕ, List, length, sym, ap, ◌∙◌, subst, arith}
use Rattle.graph_algorithms.specs.Arcs.{number_in_place}
use Rattle.cost_theory.specs.Accepted.{AreWeights}
use Rattle.flow_graph.specs.FlowGraph.{graph}
use Rattle.graph_tests.proofs.least_numbers.weights_of.Goals as goal

pub returns-clause-size : goal.returns-clause-size
returns-clause-size c =
    let count = c.edge_count-e-end.ensures.count in
    let end = c.loop-e.auto.e-end in
    let last : c.loop-e.e ≡ length c.args.graph.now.code.edges = omega arith in
    ap length c.from_vec.ensures ∙ c.loop-e.invariant.size ∙ last

pub returns-clause-calls : goal.returns-clause-calls
returns-clause-calls c =
    let count = c.edge_count-e-end.ensures.count in
    let end = c.loop-e.auto.e-end in
    let last : c.loop-e.e ≡ length c.args.graph.now.code.edges = omega arith in
    let calls : AreWeights (graph c.args.graph.now) (number_in_place c.loop-e.weights.items) = (λ d e f dl el same is.
    c.loop-e.invariant.one d f (omega arith) is ∙ sym (c.loop-e.invariant.one e f (omega arith) (sym (c.node_count-count.ensures.graph.program.one_callee d e dl el same) ∙ is))) in
    subst (λ (xs : List ℕ). AreWeights (graph c.args.graph.now) (number_in_place xs)) (sym c.from_vec.ensures) calls
