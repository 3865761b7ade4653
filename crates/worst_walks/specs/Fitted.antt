-- Scaffold: numbers of a walk that fit together.
use Rattle.std.specs.Prelude.{◌≡◌, ℕ, ◌+◌, ◌*◌, ◌<◌, List, length, nat_eq}
use Rattle.cost_theory.specs.Graph.{total, sum_below, only, enters}
use Rattle.cost_theory.specs.Lists.{body_of}
use Rattle.graph_algorithms.specs.Arcs.{number_in_place}
use Rattle.flow_graph.specs.FlowGraph.{FlowGraph, graph}
use Rattle.loop_forest.specs.Tree.{LoopView, loops}
use Rattle.walk_laws.specs.Walks.{Walks, AreWalks, AreParts, parts_total, taken_total, is_number}
use Rattle.worst_walks.specs.Tallies.{taken_sum}
use Rattle.worst_walks.specs.Explained.{begins_in, entries_of}

-- parts of walks, and how often each edge is taken where they are gone so often
pub record AreTaken (v : FlowGraph) (t : LoopView) (paths turns : List (List ℕ)) (calls entries taken : List ℕ) : Type 0 where
  pub size : length taken ≡ length v.code.edges
  pub parts : AreParts (graph v) (loops v t) (body_of paths) (body_of turns)
  pub sums : (c : ℕ → ℕ) → taken_sum taken c ≡ parts_total (graph v) (loops v t) (body_of paths) (body_of turns) (number_in_place calls)
      (number_in_place entries) c

-- so many ones
pub record AreOnes (count : ℕ) (ones : List ℕ) : Type 0 where
  pub size : length ones ≡ count
  pub each : (e : ℕ) → e < count → number_in_place ones e ≡ 1

-- functions are called as often as edges that call them are taken, the first once more
abbrev pub AreCalled : FlowGraph → List ℕ → List ℕ → Type 0
AreCalled v taken calls = (f : ℕ) → f < length v.code.functions →
    number_in_place calls f ≡ taken_total (graph v) (number_in_place taken) (λ e. only (is_number f ((graph v).callee e)) 1) + only
    (nat_eq f 0) 1

-- loops are entered as often as edges into them are taken, and functions called that begin in them
abbrev pub AreEntered : FlowGraph → LoopView → List ℕ → List ℕ → List ℕ → Type 0
AreEntered v t taken calls entries = (k : ℕ) → k < (loops v t).loops →
    number_in_place entries k ≡ taken_total (graph v) (number_in_place taken)
    (λ e. only (enters (loops v t) k ((graph v).source e) ((graph v).target e)) 1) +
    sum_below (graph v).functions (λ f. number_in_place calls f * only ((loops v t).inside k ((graph v).entry f)) 1)

-- a walk of which these are the numbers
pub record IsWalked (v : FlowGraph) (t : LoopView) (calls entries taken : List ℕ) : Type 0 where
  pub size : length taken ≡ length v.code.edges
  pub walks : Walks
  pub walked : AreWalks (graph v) (loops v t) walks
  pub totals : (c : ℕ → ℕ) → total c (walks.whole 0) ≡ taken_total (graph v) (number_in_place taken) c
  pub called : AreCalled v taken calls
  pub entered : (k : ℕ) → k < (loops v t).loops → number_in_place entries k ≡ taken_total (graph v) (number_in_place taken)
      (entries_of (graph v) (loops v t) k) + begins_in (graph v) (loops v t) k 0
