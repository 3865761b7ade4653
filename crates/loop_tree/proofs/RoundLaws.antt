-- Cycles of plain edges by the addresses of their nodes.
use Rattle.std.proofs.Common.{◌≡◌, ℕ, ◌+◌, List, slice_get, Option, Some, sym, ap, ◌∙◌, arith}
use Rattle.std.proofs.lemmas.Option.{same_Some}
use Rattle.graph_algorithms.specs.Arcs.{number_in_place}
use Rattle.graph_algorithms.specs.Cycles.{IsCycleBy}
use Rattle.graph_algorithms.proofs.Laws.{IsRound}
use Rattle.flow_graph.specs.FlowGraph.{FlowGraph, IsFlowGraph}
use Rattle.loop_forest.proofs.Laws.{one_number}
use Rattle.loop_forest.specs.Arcs.{HasPlainEdge, IsRoundOfNodes, AreAddressesOf}
use Rattle.loop_tree.specs.Backs.{IsStepBy}

edge_step : (v : FlowGraph) (backs : List (Option ℕ)) (a b at to : ℕ) → HasPlainEdge v backs a b → slice_get v.code.nodes a ≡ Some at → slice_get v.code.nodes b ≡ Some to → IsStepBy v backs at to
edge_step v backs a b at to h p q = (h.0, h.1, h.2, same_Some _ _ (sym h.3.source ∙ p), h.3.target ∙ q)

pub round_of_addresses : (v : FlowGraph) (backs : List (Option ℕ)) (numbers addresses : List ℕ) → IsFlowGraph v → IsRoundOfNodes v backs numbers → AreAddressesOf v numbers addresses → IsRound (IsStepBy v backs) addresses
round_of_addresses v backs numbers addresses flow is are =
    let size = are.size in
    record {
      distinct = λ i j ij jl same.
          is.distinct i j ij (omega arith) (one_number v flow (number_in_place numbers i) (number_in_place numbers j) (number_in_place addresses j) (are.each i (omega arith) ∙ ap Some same) (are.each j (omega arith)));
      onward = λ i lt. edge_step v backs (number_in_place numbers i) (number_in_place numbers (i + 1)) _ _ (is.onward i (omega arith)) (are.each i (omega arith)) (are.each (i + 1) (omega arith));
      round = λ i e. edge_step v backs (number_in_place numbers i) (number_in_place numbers 0) _ _ (is.round i (omega arith)) (are.each i (omega arith)) (are.each 0 (omega arith));
    }

-- a cycle of one relation is one of another that it implies
pub cycle_as : (R S : ℕ → ℕ → Type 0) (cycle : List ℕ) → ((a b : ℕ) → R a b → S a b) → IsCycleBy R cycle → IsCycleBy S cycle
cycle_as R S cycle implies is = record {
  some = is.some;
  distinct = is.distinct;
  onward = λ i lt. implies _ _ (is.onward i lt);
  round = λ i e. implies _ _ (is.round i e);
  least = is.least;
}
