-- The ends of a block.
use Rattle.std.proofs.Common.{◌≡◌, ◌↔◌, ℕ, ◌+◌, ◌-◌, ◌*◌, ◌<◌, ◌≤◌, List, map, option_map, length, slice_get, slice_index, Some, sym, ap, ◌∙◌, arith}
use Rattle.std.proofs.lemmas.Option.{get_or_from_slice_get, slice_get-map}
use Rattle.scale_base.specs.declared.ranges.Range.{Range}
use Rattle.cost_theory.specs.Reached.{edge_at}
use Rattle.flow_graph.specs.FlowGraph.{FlowGraph, graph, IsFlowGraph}
use Rattle.loop_forest.specs.Noted.{node_address}
use Rattle.loop_forest.specs.Tree.{LoopView, loops}
use Rattle.flow_graph.specs.Blocks.{IsInBlock, IsBlock, AreBlocks}

module _ (v : FlowGraph) (is : IsFlowGraph v) (block : Range) (b : IsBlock v block) where
  pub from_in : IsInBlock block block.from
  from_in = (0, (let r : block.from ≡ block.from + 4 * 0 = omega arith in r), (let s = b.size in let p = b.some in let r : block.from < block.to = omega (arith, s, p) in r))

  pub last_in : IsInBlock block (block.to - 4)
  last_in = (
    b.count - 1,
    (let s = b.size in let p = b.some in let r : block.to - 4 ≡ block.from + 4 * (b.count - 1) = omega (arith, s, p) in r),
    (let s = b.size in let p = b.some in let r : block.to - 4 < block.to = omega (arith, s, p) in r),
  )

  pub long : 4 ≤ block.to
  long = let s = b.size in let p = b.some in let r : 4 ≤ block.to = omega (arith, s, p) in r

  pub from_there : (k : ℕ) × (slice_get v.code.nodes k ≡ Some block.from)
  from_there = (is.nodes block.from).1 (b.nodes block.from from_in)

  pub last_there : (k : ℕ) × (slice_get v.code.nodes k ≡ Some (block.to - 4))
  last_there = (is.nodes (block.to - 4)).1 (b.nodes (block.to - 4) last_in)

-- the number at a place that is known
pub place_is : (v : FlowGraph) (k at : ℕ) → slice_get v.code.nodes k ≡ Some at → slice_index v.code.nodes k ≡ at
place_is v k at e = get_or_from_slice_get v.code.nodes k at 0 e

-- the address of a loop's header
pub header_is : (v : FlowGraph) (t : LoopView) (k h : ℕ) → slice_get t.headers k ≡ Some h → (loops v t).header k ≡ node_address v h
header_is v t k h at =
    get_or_from_slice_get (map (node_address v) t.headers) k (node_address v h) 0 (slice_get-map (node_address v) t.headers k ∙ ap (option_map (node_address v)) at)

-- all edges of one node call what the first of them calls
pub one_called : (v : FlowGraph) → IsFlowGraph v → (k first end : ℕ) → (first < end) × (end ≤ length v.code.edges)
    → ((e : ℕ) → e < length v.code.edges → (edge_at (slice_get v.code.edges e) ≡ slice_index v.code.nodes k) ↔ ((first ≤ e) × (e < end)))
    → (d : ℕ) → d < length v.code.edges → (graph v).source d ≡ slice_index v.code.nodes k → (graph v).callee d ≡ (graph v).callee first
one_called v is k first end within edges d dl at =
    let a = within.0 in
    let b = within.1 in
    let fl : first < length v.code.edges = omega (arith, a, b) in
    let low : first ≤ first = omega arith in
    is.program.one_callee d first dl fl (at ∙ sym ((edges first fl).1 (low, a)))
