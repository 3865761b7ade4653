-- Cycles of arcs for the plain edges between nodes.
use Rattle.std.proofs.Common.{ℕ, ◌+◌, ◌<◌, ◌≤◌, List, length, Option, subst, arith, ⊎_elim}
use Rattle.std.proofs.lemmas.Bool.{cases_lt}
use Rattle.std.proofs.lemmas.Option.{slice_get_within}
use Rattle.graph_algorithms.specs.declared.orders.Arc.{Arc}
use Rattle.graph_algorithms.specs.Arcs.{arc_at, number_in_place, AreNumbered, HasArc, IsCycle}
use Rattle.flow_graph.specs.FlowGraph.{FlowGraph}
use Rattle.loop_forest.specs.Arcs.{IsEdgeBetween, ArePlainArcs, HasPlainEdge, IsRoundOfNodes}

pub arcs_numbered : (v : FlowGraph) (backs : List (Option ℕ)) (n : ℕ) (arcs : List Arc) → ArePlainArcs v backs n arcs → AreNumbered (length v.code.nodes) arcs
arcs_numbered v backs n arcs are s lt = let h = (are.edge s lt).3 in (slice_get_within v.code.nodes (arc_at arcs s).from _ h.source, h.within)

-- an arc is a plain edge
arc_edge : (v : FlowGraph) (backs : List (Option ℕ)) (arcs : List Arc) (a b : ℕ) → ArePlainArcs v backs (length v.code.edges) arcs → HasArc arcs a b → HasPlainEdge v backs a b
arc_edge v backs arcs a b are h =
    let edge = are.edge h.0 h.1 in
    (edge.0, edge.1, edge.2, subst (λ x. IsEdgeBetween v edge.0 x b) h.2 (subst (λ y. IsEdgeBetween v edge.0 (arc_at arcs h.0).from y) h.3 edge.3))

edge_within : (v : FlowGraph) (backs : List (Option ℕ)) (a b : ℕ) → HasPlainEdge v backs a b → a < length v.code.nodes
edge_within v backs a b h = slice_get_within v.code.nodes a _ h.3.source

-- a cycle of arcs is one of plain edges
pub round_of_arcs : (v : FlowGraph) (backs : List (Option ℕ)) (arcs : List Arc) (numbers : List ℕ) → ArePlainArcs v backs (length v.code.edges) arcs → IsCycle arcs numbers → IsRoundOfNodes v backs numbers
round_of_arcs v backs arcs numbers are is = record {
  some = is.some;
  within = λ i lt. ⊎_elim
      (λ (low : i + 1 < length numbers). edge_within v backs (number_in_place numbers i) (number_in_place numbers (i + 1)) (arc_edge v backs arcs _ _ are (is.onward i low)))
      (λ (high : length numbers ≤ i + 1). edge_within v backs (number_in_place numbers i) (number_in_place numbers 0) (arc_edge v backs arcs _ _ are (is.round i (omega arith))))
      (cases_lt (i + 1) (length numbers));
  distinct = is.distinct;
  onward = λ i lt. arc_edge v backs arcs _ _ are (is.onward i lt);
  round = λ i e. arc_edge v backs arcs _ _ are (is.round i e);
}
