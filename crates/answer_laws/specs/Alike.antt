-- Scaffold: what two answers about one program have in common.
use Rattle.std.specs.Prelude.{◌≡◌, ℕ, ◌<◌, ◌⊎◌, List}
use Rattle.scale_base.specs.declared.refusal.Refusal.{Refusal}
use Rattle.scale_base.specs.declared.refusal.Refusal.TheVariants.{Recursion, UnboundedCycle}
use Rattle.cost_theory.specs.Worst.{Numbers}
use Rattle.cycle_laws.specs.Charged.{Charged, to_end_after}
use Rattle.flow_graph.specs.FlowGraph.{FlowGraph, graph}
use Rattle.loop_forest.specs.Tree.{LoopView, loops}
use Rattle.worst_cycles.specs.Worst.{slack_at, rest_at}
use Rattle.answer_laws.specs.Renumbered.{IsRenumbered}

-- two refusals of one cause name a cycle each
pub record NameCycles (cause : List ℕ → Refusal) (refusal refusal' : Refusal) : Type 0 where
  pub cycle : List ℕ
  pub cycle' : List ℕ
  pub named : refusal ≡ cause cycle
  pub named' : refusal' ≡ cause cycle'

-- two refusals are the same, but for the cycle that they name
abbrev pub AreAlikeRefusals : Refusal → Refusal → Type 0
AreAlikeRefusals refusal refusal' = (refusal ≡ refusal') ⊎ (NameCycles (λ cycle. Recursion cycle) refusal refusal' ⊎
    NameCycles (λ cycle. UnboundedCycle cycle) refusal refusal')

-- two trees list the same loops
pub record AreAlikeTrees (v v' : FlowGraph) (t t' : LoopView) : Type 0 where
  pub headers : t.headers ≡ t'.headers
  pub bounds : t.bounds ≡ t'.bounds
  pub counted : t.counted ≡ t'.counted
  pub least_trips : t.least_trips ≡ t'.least_trips
  pub loops : loops v t ≡ loops v' t'

-- Two records of numbers hold the same, of functions by their numbers in each graph.
pub record AreAlikeNumbers (v v' : FlowGraph) (t t' : LoopView) (same : IsRenumbered v v') (w : ℕ → ℕ) (n n' : Numbers) : Type 0 where
  pub whole : n.worst 0 ≡ n'.worst 0
  pub worst : (f : ℕ) → f < (graph v').functions → n.worst (same.graphs.number f) ≡ n'.worst f
  pub context : (f : ℕ) → f < (graph v').functions → n.context (same.graphs.number f) ≡ n'.context f
  pub iteration : (k : ℕ) → k < (loops v t).loops → n.iteration k ≡ n'.iteration k
  pub left : (at : ℕ) → n.left at ≡ n'.left at
  pub slack : (e : ℕ) → slack_at (graph v) (loops v t) w n e ≡ slack_at (graph v') (loops v' t') w n' e
  pub rest : (e : ℕ) → rest_at (graph v) (loops v t) n e ≡ rest_at (graph v') (loops v' t') n' e

-- the same of the least cycles, of which none goes by functions
pub record AreAlikeCharged (v v' : FlowGraph) (t t' : LoopView) (n n' : Charged) : Type 0 where
  pub least : n.least ≡ n'.least
  pub turn : (k : ℕ) → k < (loops v t).loops → n.turn k ≡ n'.turn k
  pub after : (e : ℕ) → to_end_after (graph v) (loops v t) n e ≡ to_end_after (graph v') (loops v' t') n' e
