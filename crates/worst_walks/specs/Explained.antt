-- Where the worst cycles of a program go: a walk that takes them, and what is counted along it.
-- The walk is a longest path with bounded loops (Puschner and Koza, Real-Time Systems, 1989). Its counts are those that integer programs of
-- worst-case execution time analysis look for (Li and Malik, DAC 1995), here of a walk that exists.
use Rattle.std.specs.Prelude.{◌≡◌, ℕ, ◌+◌, ◌<◌, not, ◌&&◌, List, length, nat_eq, Option, is_some}
use Rattle.cost_theory.specs.Graph.{Graph, Loops, total, sum_below, only, enters, is_back}
use Rattle.cost_theory.specs.Worst.{at_some}
use Rattle.graph_algorithms.specs.Arcs.{number_in_place}
use Rattle.loop_forest.specs.Tree.{IsInnermost}
use Rattle.walk_laws.specs.Walks.{Walks, AreWalks, is_number}
use Rattle.worst_walks.specs.declared.counts.WalkCounts.{WalkCounts}

-- WHAT AN EDGE IS COUNTED AS

-- a call of function f
abbrev pub calls_of : Graph → ℕ → ℕ → ℕ
calls_of g f e = only (is_number f (g.callee e)) 1

-- whether function f begins in loop k: then each call of it enters the loop
abbrev pub begins_in : Graph → Loops → ℕ → ℕ → ℕ
begins_in g l k f = only (l.inside k (g.entry f)) 1

-- an entry of loop k from outside: over an edge into its body, or by a call of a function that begins in it
abbrev pub entries_of : Graph → Loops → ℕ → ℕ → ℕ
entries_of g l k e = only (enters l k (g.source e) (g.target e)) 1 + at_some (g.callee e) (begins_in g l k)

-- a turn of loop k
abbrev pub turns_of : Graph → Loops → ℕ → ℕ → ℕ
turns_of g l k e = only (is_back g l k e) 1

-- Cycles of loop k alone, and of function f alone: an edge is of the innermost loop round the instruction at which it starts, and inner has
-- that loop; an edge of no loop is of its function.
abbrev pub loop_cycles : (ℕ → Option ℕ) → (ℕ → ℕ) → ℕ → ℕ → ℕ
loop_cycles inner w k e = only (is_number k (inner e)) (w e)

abbrev pub function_cycles : Graph → (ℕ → Option ℕ) → (ℕ → ℕ) → ℕ → ℕ → ℕ
function_cycles g inner w f e = only (nat_eq (g.owner (g.source e)) f && not (is_some (inner e))) (w e)

-- THE WALK

-- so many numbers, each the total of its costs along the edges of a walk
pub record AreTotals (count : ℕ) (c : ℕ → ℕ → ℕ) (es table : List ℕ) : Type 0 where
  pub size : length table ≡ count
  pub each : (k : ℕ) → k < count → number_in_place table k ≡ total (c k) es

-- A walk from the program's entry through all functions that it calls, along which no loop takes more back edges an entry than its bound, and
-- which takes the worst cycles; and what is counted along it: of all its edges, whatever function they are of.
pub record IsWorstWalk (g : Graph) (l : Loops) (w : ℕ → ℕ) (worst : ℕ) (x : WalkCounts) : Type 0 where
  pub walks : Walks
  pub walked : AreWalks g l walks
  pub takes : total w (walks.whole 0) ≡ worst
  -- by edge, how often it is taken
  pub taken : AreTotals g.edges (λ e d. only (nat_eq d e) 1) (walks.whole 0) x.taken.items
  -- by function, how often it is called: the first once more than over edges
  pub calls : (f : ℕ) → f < g.functions → number_in_place x.calls.items f ≡ total (calls_of g f) (walks.whole 0) + only (nat_eq f 0) 1
  -- by loop, how often it is entered from outside, and its turns
  pub entries : (k : ℕ) → k < l.loops → number_in_place x.entries.items k ≡ total (entries_of g l k) (walks.whole 0) + begins_in g l k 0
  pub turns : AreTotals l.loops (turns_of g l) (walks.whole 0) x.turns.items
  -- by edge, the innermost loop round the node at which it starts
  pub inner : ℕ → Option ℕ
  pub innermost : (e : ℕ) → e < g.edges → IsInnermost l (g.source e) (inner e)
  -- by function and by loop, the cycles of their own edges, which add up to the worst cycles
  pub function_own : AreTotals g.functions (function_cycles g inner w) (walks.whole 0) x.function_own.items
  pub loop_own : AreTotals l.loops (loop_cycles inner w) (walks.whole 0) x.loop_own.items
  pub adds_up : sum_below g.functions (number_in_place x.function_own.items) + sum_below l.loops (number_in_place x.loop_own.items) ≡ worst
