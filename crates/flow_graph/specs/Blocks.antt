-- The basic blocks of a control-flow graph: Aho, Lam, Sethi and Ullman, Compilers, section 8.4.1. Here a call ends a block, as does a
-- service that may exit, since two edges start there or one of another kind.
use Rattle.std.specs.Prelude.{◌≡◌, ℕ, ◌+◌, ◌*◌, ◌<◌, ◌≤◌, List, length, slice_get, Some}
use Rattle.scale_base.specs.declared.ranges.Range.{Range}
use Rattle.scale_base.specs.declared.edges.EdgeKind.TheVariants.{Next}
use Rattle.cost_theory.specs.Accepted.{IsNode}
use Rattle.flow_graph.specs.FlowGraph.{FlowGraph, graph}

-- an address is one of a block's: its first, the one 4 behind and so on, below its end
abbrev pub IsInBlock : Range → ℕ → Type 0
IsInBlock block a = (k : ℕ) × (a ≡ block.from + 4 * k) × (a < block.to)

-- exactly one edge starts at an address, of kind Next, to the address 4 behind; and no other edge leads there
pub record IsJoined (v : FlowGraph) (a : ℕ) : Type 0 where
  pub edge : ℕ
  pub next : slice_get v.code.edges edge ≡ Some (record { at = a; kind = Next; to = a + 4 })
  pub only_from : (e : ℕ) → e < length v.code.edges → (graph v).source e ≡ a → e ≡ edge
  pub only_into : (e : ℕ) → e < length v.code.edges → (graph v).target e ≡ Some (a + 4) → e ≡ edge

-- A block: one or more nodes of one function, each 4 behind the one before.
pub record IsBlock (v : FlowGraph) (block : Range) : Type 0 where
  pub count : ℕ
  pub some : 0 < count
  pub size : block.to ≡ block.from + 4 * count
  pub nodes : (a : ℕ) → IsInBlock block a → IsNode (graph v) a
  pub function : (a : ℕ) → IsInBlock block a → (graph v).owner a ≡ (graph v).owner block.from
  -- each but the last has exactly one edge, of kind Next, to the one behind it, and each but the first has that edge alone into it
  pub joined : (a : ℕ) → IsInBlock block a → a + 4 < block.to → IsJoined v a
  -- no function's entry stands in it but as its first node
  pub entry : (f : ℕ) → f < (graph v).functions → IsInBlock block ((graph v).entry f) → (graph v).entry f ≡ block.from

-- The blocks of a graph, in ascending order and apart. Each node is in exactly one, and no two of them together are a block.
pub record AreBlocks (v : FlowGraph) (blocks : List Range) : Type 0 where
  pub each : (b : ℕ) (block : Range) → slice_get blocks b ≡ Some block → IsBlock v block
  pub ascending : (b c : ℕ) (one other : Range) → b < c → slice_get blocks b ≡ Some one → slice_get blocks c ≡ Some other →
      one.to ≤ other.from
  pub whole : (a : ℕ) → IsNode (graph v) a → (b : ℕ) × (block : Range) × (slice_get blocks b ≡ Some block) × IsInBlock block a
  pub once : (a b c : ℕ) (one other : Range) → slice_get blocks b ≡ Some one → slice_get blocks c ≡ Some other → IsInBlock one a →
      IsInBlock other a → b ≡ c
  pub largest : (b c : ℕ) (one other : Range) → slice_get blocks b ≡ Some one → slice_get blocks c ≡ Some other → one.to ≡ other.from →
      IsBlock v (record { from = one.from; to = other.to }) → ⊥
