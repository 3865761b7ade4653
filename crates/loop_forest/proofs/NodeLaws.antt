-- Nodes and their numbers.
use Rattle.std.proofs.Common.{◌≡◌, ℕ, ◌<◌, ◌≤◌, slice_get, Some, arith, ⊎_elim, refl}
use Rattle.std.proofs.lemmas.Bool.{cases_lt}
use Rattle.flow_graph.specs.FlowGraph.{FlowGraph, graph, IsFlowGraph}

-- an address has one number
pub one_number : (v : FlowGraph) → IsFlowGraph v → (i j at : ℕ) → slice_get v.code.nodes i ≡ Some at → slice_get v.code.nodes j ≡ Some at → i ≡ j
one_number v is i j at p q = ⊎_elim
    (λ (lt : i < j). let low : at < at = is.ascending i j at at lt p q in let bad : ⊥ = omega arith in absurd bad)
    (λ (le : j ≤ i). ⊎_elim
    (λ (lt : j < i). let low : at < at = is.ascending j i at at lt q p in let bad : ⊥ = omega arith in absurd bad)
    (λ (ge : i ≤ j). let e : i ≡ j = omega arith in e)
    (cases_lt j i))
    (cases_lt i j)

-- an edge starts at a node
pub source_number : (v : FlowGraph) → IsFlowGraph v → (e : ℕ) → e < (graph v).edges → (k : ℕ) × (slice_get v.code.nodes k ≡ Some ((graph v).source e))
source_number v is e lt = (is.nodes ((graph v).source e)).1 (e, lt, refl)
