-- Worst cycles that were found are in the range that least cycles need.
use Rattle.std.proofs.Common.{◌≡◌, ℕ, arith, slice_get, Some}
use Rattle.std.proofs.lemmas.Option.{get_or_from_slice_get}
use Rattle.cost_theory.specs.Graph.{Loops}
use Rattle.code_graph.specs.FlowGraph.{FlowGraph, graph, IsFlowGraph}
use Rattle.worst_cycles.specs.Worst.{WorstView, IsWorstInRange}
use Rattle.least_cycles.specs.Found.{HasWorstInRange}

pub worst_in_range : (v : FlowGraph) (l : Loops) (w : ℕ → ℕ) (x : WorstView) → IsFlowGraph v → IsWorstInRange (graph v) l w x → HasWorstInRange v l w
worst_in_range v l w x flow found =
    let here : slice_get x.worst 0 ≡ Some (found.numbers.0.worst 0) = found.numbers.2 0 flow.program.main in
    let e = get_or_from_slice_get x.worst 0 (found.numbers.0.worst 0) 0 here in
    let s = found.small in
    (found.numbers.0, found.numbers.1, omega (arith, e, s))
