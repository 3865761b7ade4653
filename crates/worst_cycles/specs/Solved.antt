-- Scaffold: what the numbers of an accepted program keep over one edge, at one node and in one loop: all that a pass over the nodes needs of them.
use Rattle.std.specs.Prelude.{◌≡◌, ◌≢◌, ℕ, ◌+◌, ◌<◌, ◌≤◌, true, false, Some, None}
use Rattle.cost_theory.specs.Graph.{Graph, Loops, is_back}
use Rattle.cost_theory.specs.Worst.{Numbers, cost, charged, all_of, IsLeft, IsContext, left_at, turn_back, turns_round}
use Rattle.cost_theory.specs.Accepted.{IsNode}
use Rattle.cycle_laws.specs.Passes.{IsPlainOver, IsClosingOver}

-- an edge's cost with all turns of the loops that it enters from outside
abbrev pub charge : Graph → Loops → (ℕ → ℕ) → Numbers → ℕ → ℕ
charge g l w n e = charged g l n (cost g n w) e

pub record AreSolved (g : Graph) (l : Loops) (w : ℕ → ℕ) (n : Numbers) : Type 0 where
  -- what an edge is charged
  pub on : (e : ℕ) → e < g.edges → ((k : ℕ) → k < l.loops → g.target e ≢ Some (l.header k)) → charge g l w n e ≡ cost g n w e
  pub back : (e k : ℕ) → e < g.edges → k < l.loops → is_back g l k e ≡ true → charge g l w n e ≡ cost g n w e
  pub into : (e k : ℕ) → e < g.edges → k < l.loops → g.target e ≡ Some (l.header k) → is_back g l k e ≡ false →
      charge g l w n e ≡ cost g n w e + all_of l n k
  -- paths and iterations over one edge
  pub plain : (v : ℕ) → IsNode g v → IsPlainOver g l w n v
  pub closing : (k v : ℕ) → k < l.loops → l.inside k v ≡ true → IsClosingOver g l w n k v
  pub iteration : (k : ℕ) → k < l.loops → n.closing k (l.header k) ≡ Some (n.iteration k)
  pub worst : (f : ℕ) → f < g.functions →
      (((k : ℕ) → k < l.loops → l.header k ≢ g.entry f) → n.worst f ≡ n.plain (g.entry f)) ×
      ((k : ℕ) → k < l.loops → l.header k ≡ g.entry f → n.worst f ≡ n.plain (g.entry f) + all_of l n k)
  -- what is within the worst cycles of the program
  pub plain_within : (v : ℕ) → IsNode g v → n.plain v ≤ n.worst 0
  pub turns_within : (k : ℕ) → k < l.loops → all_of l n k ≤ n.worst 0
  pub closing_near : (most : ℕ) → ((e : ℕ) → e < g.edges → g.callee e ≡ None → w e ≤ most) → (k v b : ℕ) → k < l.loops →
      l.inside k v ≡ true → n.closing k v ≡ Some b → b ≤ n.worst 0 + most
  pub left_within : (v : ℕ) → IsNode g v → n.left v + turns_round l n (Some v) ≤ n.worst 0
  pub context_within : (f : ℕ) → f < g.functions → n.context f ≤ n.worst 0
  -- what is left at a node, behind an edge, and behind the calls of a function
  pub left : (v : ℕ) → IsLeft l n v
  pub over_edge : (e : ℕ) → e < g.edges → charge g l w n e + left_at n (g.target e) ≤ n.left (g.source e) + turn_back g l n e
  pub context : (f : ℕ) → f < g.functions → IsContext g l w n f
  pub uncalled : (e f : ℕ) → e < g.edges → g.callee e ≡ Some f → f ≢ 0
  -- headers
  pub different : (j k : ℕ) → j < l.loops → k < l.loops → l.header j ≡ l.header k → j ≡ k
  pub held : (k : ℕ) → k < l.loops → l.inside k (l.header k) ≡ true
