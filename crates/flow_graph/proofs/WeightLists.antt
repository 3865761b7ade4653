-- The weights of the graph of a text as a list and as costs of its edges.
use Rattle.std.proofs.Common.{◌≡◌, ℕ, zero, suc, List, [], ◌∷◌, map, slice_get, Some, refl, sym, ap, ◌∙◌, subst}
use Rattle.std.specs.Prelude.{slice_index_or}
use Rattle.std.proofs.Math.Path.{fun_ext}
use Rattle.scale_base.specs.declared.stepping.Class.{Class}
use Rattle.graph_algorithms.specs.Arcs.{number_in_place}
use Rattle.scale_base.specs.declared.edges.Edge.{Edge}
use Rattle.cost_theory.specs.Graph.{Graph}
use Rattle.cost_theory.specs.Accepted.{AreWeights}
use Rattle.code_text.specs.Text.{Text}
use Rattle.code_text.specs.EdgeCosts.{edge_class, cost_of, weights}
use Rattle.code_text.specs.TextGraph.{text_graph}
use Rattle.code_text.proofs.Laws.{weights_are}
use Rattle.flow_graph.specs.FlowGraph.{FlowGraph, graph, IsGraphOf}

-- the weights as a list
abbrev pub listed_weights : FlowGraph → (Class → ℕ) → List ℕ
listed_weights v costs = map (cost_of costs) v.classes

at_edge : (t : Text) (costs : Class → ℕ) (edges : List Edge) (e : ℕ) →
    slice_index_or (map (cost_of costs) (map (λ x. edge_class t (Some x)) edges)) e 0 ≡ cost_of costs (edge_class t (slice_get edges e))
at_edge t costs [] e = refl
at_edge t costs (x ∷ xs) zero = refl
at_edge t costs (x ∷ xs) (suc e) = at_edge t costs xs e

-- are those of the text
pub weights_listed : (t : Text) (v : FlowGraph) (costs : Class → ℕ) → IsGraphOf t v → number_in_place (listed_weights v costs) ≡ weights t v.code costs
weights_listed t v costs is = fun_ext (λ e. ap (λ cs. slice_index_or (map (cost_of costs) cs) e 0) is.classes ∙ at_edge t costs v.code.edges e)

pub weights_hold : (t : Text) (v : FlowGraph) (costs : Class → ℕ) → IsGraphOf t v → AreWeights (graph v) (number_in_place (listed_weights v costs))
weights_hold t v costs is =
    subst (λ (g : Graph). AreWeights g (number_in_place (listed_weights v costs))) is.graph_is
    (subst (λ (w : ℕ → ℕ). AreWeights (text_graph t v.code) w) (sym (weights_listed t v costs is)) (weights_are t v.code costs))
