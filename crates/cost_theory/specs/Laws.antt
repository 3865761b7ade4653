-- The laws of the numbers of a program, as statements for the contracts of functions.
use Rattle.std.specs.Prelude.{◌≡◌, ◌≢◌, ℕ, ◌+◌, ◌<◌, ◌≤◌, Bool, true, false, ◌⊎◌, List, ◌∷◌, slice_get, Option, Some, None, IsSome}
use Rattle.scale_base.specs.declared.edges.Edge.{Edge}
use Rattle.cost_theory.specs.declared.flow.Flow.{Flow}
use Rattle.cost_theory.specs.Graph.{Graph, Loops, total, next_edge}
use Rattle.cost_theory.specs.Worst.{Numbers, AreNumbers, cost, charged, left_at, turn_back, slack, left_behind, turns_round, turns_taken, all_of, rest}
use Rattle.cost_theory.specs.Accepted.{IsNode, IsProgram, AreCrossing, IsTooDeep, AreEntered, IsWithin, AreAccepted, AreWeights, HasNoRecursion, IsCallOrder, IsPlainOrder, IsPlainCycle}
use Rattle.cost_theory.specs.Reached.{Code, IsCodeOf, HasNoBadWord, HasNoSharedCode, graph_of}
use Rattle.cost_theory.specs.Steps.{Transition, IsKept, AreKept, graph_start, state_after, after, edge_of, cycles, cycles_left}
use Rattle.cost_theory.specs.Steps.Transition.{Along, Call, Return}
use Rattle.cost_theory.specs.Least.{IsUpTo}
use Rattle.cost_theory.specs.LeastTurns.{IsRun, KeepsLeast, IsKind, turn_step, turn_last}

-- an accepted program with its loops, weights of its edges, and the numbers under these weights
pub record IsAnalyzed (g : Graph) (l : Loops) (extent : ℕ → ℕ → Bool) (w : ℕ → ℕ) (n : Numbers) : Type 0 where
  pub program : IsProgram g
  pub accepted : AreAccepted g l extent
  pub weights : AreWeights g w
  pub numbers : AreNumbers g l w n

-- two records of numbers hold the same for the functions, loops and nodes of a program
pub record AreSameNumbers (g : Graph) (l : Loops) (n n' : Numbers) : Type 0 where
  pub worst : (f : ℕ) → f < g.functions → n.worst f ≡ n'.worst f
  pub iteration : (k : ℕ) → k < l.loops → n.iteration k ≡ n'.iteration k
  pub plain : (v : ℕ) → n.plain v ≡ n'.plain v
  pub closing : (k v : ℕ) → k < l.loops → l.inside k v ≡ true → n.closing k v ≡ n'.closing k v
  pub left : (v : ℕ) → n.left v ≡ n'.left v
  pub context : (f : ℕ) → f < g.functions → n.context f ≡ n'.context f

-- REACHED CODE

-- The graph over reached code without refused words and without recursion is a program.
abbrev pub ReachedCodeIsProgram : Type 0
ReachedCodeIsProgram = (word : ℕ → Flow) (first : ℕ) (code : Code) →
    IsCodeOf word first code → HasNoBadWord word first → HasNoRecursion (graph_of word code) → IsProgram (graph_of word code)

-- Where reached code has lists of nodes with one owner each, no node is reached in two functions.
abbrev pub ReachedCodeIsNotShared : Type 0
ReachedCodeIsNotShared = (word : ℕ → Flow) (first : ℕ) (code : Code) → IsCodeOf word first code → HasNoSharedCode word first

-- Words that agree at the nodes of edges give one graph.
abbrev pub GraphsAgree : Type 0
GraphsAgree = (word word' : ℕ → Flow) (code : Code) → ((i : ℕ) (e : Edge) → slice_get code.edges i ≡ Some e → word e.at ≡ word' e.at) →
    graph_of word code ≡ graph_of word' code

-- The edges of reached code start at its nodes.
abbrev pub EdgesStartAtNodes : Type 0
EdgesStartAtNodes = (word : ℕ → Flow) (first : ℕ) (code : Code) → IsCodeOf word first code →
    (i : ℕ) (e : Edge) → slice_get code.edges i ≡ Some e → (k : ℕ) × (slice_get code.nodes k ≡ Some e.at)

-- An order of the functions, callees first, shows that there is no recursion.
abbrev pub CallOrderShows : Type 0
CallOrderShows = (g : Graph) (order : ℕ → ℕ) → IsCallOrder g order → HasNoRecursion g

-- An order of the nodes along plain edges shows that there is no cycle of plain edges.
abbrev pub PlainOrderShows : Type 0
PlainOrderShows = (g : Graph) (l : Loops) (count : ℕ) (place : ℕ → ℕ) → IsPlainOrder g l count place →
    (v : ℕ) (es : List ℕ) → IsPlainCycle g l v es → ⊥

-- A program has an order of its functions,
abbrev pub CallOrderExists : Type 0
CallOrderExists = (g : Graph) → IsProgram g → (order : ℕ → ℕ) × IsCallOrder g order

-- and with accepted loops an order of its nodes along plain edges.
abbrev pub PlainOrderExists : Type 0
PlainOrderExists = (g : Graph) (l : Loops) (extent : ℕ → ℕ → Bool) → IsProgram g → AreAccepted g l extent →
    (count : ℕ) × ((place : ℕ → ℕ) × IsPlainOrder g l count place)

-- A program without loops is accepted where its nodes have an order along all edges.
abbrev pub NoLoopsAccepted : Type 0
NoLoopsAccepted = (g : Graph) (l : Loops) (extent : ℕ → ℕ → Bool) (count : ℕ) (place : ℕ → ℕ) →
    l.loops ≡ 0 → IsPlainOrder g l count place → AreAccepted g l extent

-- LOOPS

-- Loops that are entered at their headers alone have their headers in their bodies,
abbrev pub HeadersAreInside : Type 0
HeadersAreInside = (g : Graph) (l : Loops) (extent : ℕ → ℕ → Bool) → IsProgram g → AreEntered g l extent →
    (k : ℕ) → k < l.loops → l.inside k (l.header k) ≡ true

-- and none of them cross:
abbrev pub EnteredLoopsDoNotCross : Type 0
EnteredLoopsDoNotCross = (g : Graph) (l : Loops) (extent : ℕ → ℕ → Bool) → IsProgram g → AreEntered g l extent →
    (j k : ℕ) → j < l.loops → k < l.loops → AreCrossing l j k → ⊥

-- of two that share a node one lies within the other,
abbrev pub EnteredLoopsAreNested : Type 0
EnteredLoopsAreNested = (g : Graph) (l : Loops) (extent : ℕ → ℕ → Bool) → IsProgram g → AreEntered g l extent →
    (j k v : ℕ) → j < l.loops → k < l.loops → j ≢ k → l.inside j v ≡ true → l.inside k v ≡ true → IsWithin l j k ⊎ IsWithin l k j

-- and a loop that has the header of another has that other within it.
abbrev pub HeadersAreHeld : Type 0
HeadersAreHeld = (g : Graph) (l : Loops) (extent : ℕ → ℕ → Bool) → IsProgram g → AreEntered g l extent →
    (j k : ℕ) → j < l.loops → k < l.loops → j ≢ k → l.inside k (l.header j) ≡ true → IsWithin l j k

-- They are accepted where none is too deep and the nodes have an order along plain edges.
abbrev pub EnteredLoopsAreAccepted : Type 0
EnteredLoopsAreAccepted = (g : Graph) (l : Loops) (extent : ℕ → ℕ → Bool) → IsProgram g → AreEntered g l extent →
    ((k : ℕ) → k < l.loops → IsTooDeep l k → ⊥) → (count : ℕ) (place : ℕ → ℕ) → IsPlainOrder g l count place → AreAccepted g l extent

-- NUMBERS

-- An accepted program has its numbers, under any weights.
abbrev pub NumbersExist : Type 0
NumbersExist = (g : Graph) (l : Loops) (extent : ℕ → ℕ → Bool) (w : ℕ → ℕ) → IsProgram g → AreAccepted g l extent → (n : Numbers) ×
    AreNumbers g l w n

-- And only these.
abbrev pub NumbersAgree : Type 0
NumbersAgree = (g : Graph) (l : Loops) (extent : ℕ → ℕ → Bool) (w : ℕ → ℕ) (n n' : Numbers) →
    IsProgram g → AreAccepted g l extent → AreNumbers g l w n → AreNumbers g l w n' → AreSameNumbers g l n n'

-- The worst cycles of a function are what is left at its entry, with all turns of the loops round it.
abbrev pub WorstEquation : Type 0
WorstEquation = (g : Graph) (l : Loops) (extent : ℕ → ℕ → Bool) (w : ℕ → ℕ) (n : Numbers) → IsAnalyzed g l extent w n →
    (f : ℕ) → f < g.functions → n.worst f ≡ n.left (g.entry f) + turns_round l n (Some (g.entry f))

-- An edge's cost and what is left behind it are at most what is left before it, and one iteration more over a back edge.
abbrev pub SlackIsNotNegative : Type 0
SlackIsNotNegative = (g : Graph) (l : Loops) (extent : ℕ → ℕ → Bool) (w : ℕ → ℕ) (n : Numbers) → IsAnalyzed g l extent w n →
    (e : ℕ) → e < g.edges → charged g l n (cost g n w) e + left_at n (g.target e) ≤ n.left (g.source e) + turn_back g l n e

-- A function's worst cycles with its context are at most the program's.
abbrev pub FunctionWithinWorst : Type 0
FunctionWithinWorst = (g : Graph) (l : Loops) (extent : ℕ → ℕ → Bool) (w : ℕ → ℕ) (n : Numbers) → IsAnalyzed g l extent w n →
    (f : ℕ) → f < g.functions → n.worst f + n.context f ≤ n.worst 0

-- So is what is left at a node with all turns round it,
abbrev pub NodeWithinWorst : Type 0
NodeWithinWorst = (g : Graph) (l : Loops) (extent : ℕ → ℕ → Bool) (w : ℕ → ℕ) (n : Numbers) → IsAnalyzed g l extent w n →
    (v : ℕ) → IsNode g v → n.left v + turns_round l n (Some v) ≤ n.worst 0

-- all turns of a loop,
abbrev pub TurnsWithinWorst : Type 0
TurnsWithinWorst = (g : Graph) (l : Loops) (extent : ℕ → ℕ → Bool) (w : ℕ → ℕ) (n : Numbers) → IsAnalyzed g l extent w n →
    (k : ℕ) → k < l.loops → all_of l n k ≤ n.worst 0

-- and the rest behind an edge.
abbrev pub RestWithinWorst : Type 0
RestWithinWorst = (g : Graph) (l : Loops) (extent : ℕ → ℕ → Bool) (w : ℕ → ℕ) (n : Numbers) → IsAnalyzed g l extent w n →
    (e v : ℕ) → e < g.edges → g.target e ≡ Some v → rest g l n e ≤ n.worst 0

-- One iteration, or the rest of one, is at most the worst cycles and the greatest weight of an edge that is no call.
abbrev pub IterationNearWorst : Type 0
IterationNearWorst = (g : Graph) (l : Loops) (extent : ℕ → ℕ → Bool) (w : ℕ → ℕ) (n : Numbers) → IsAnalyzed g l extent w n →
    (most : ℕ) → ((e : ℕ) → e < g.edges → g.callee e ≡ None → w e ≤ most) → (k : ℕ) → k < l.loops → n.iteration k ≤ n.worst 0 + most

abbrev pub ClosingNearWorst : Type 0
ClosingNearWorst = (g : Graph) (l : Loops) (extent : ℕ → ℕ → Bool) (w : ℕ → ℕ) (n : Numbers) → IsAnalyzed g l extent w n →
    (most : ℕ) → ((e : ℕ) → e < g.edges → g.callee e ≡ None → w e ≤ most) →
    (k v b : ℕ) → k < l.loops → l.inside k v ≡ true → n.closing k v ≡ Some b → b ≤ n.worst 0 + most

-- RUNS

-- At the start of a run the worst cycles are left.
abbrev pub WorstLeftAtStart : Type 0
WorstLeftAtStart = (g : Graph) (l : Loops) (extent : ℕ → ℕ → Bool) (w : ℕ → ℕ) (n : Numbers) → IsAnalyzed g l extent w n →
    cycles_left g l w n (graph_start g) ≡ n.worst 0

-- Each kept step lowers the cycles left by at least its weight.
abbrev pub StepLowers : Type 0
StepLowers = (g : Graph) (l : Loops) (extent : ℕ → ℕ → Bool) (w : ℕ → ℕ) (n : Numbers) → IsAnalyzed g l extent w n →
    (ms : List Transition) (m : Transition) → AreKept g l (graph_start g) ms → IsKept g l (state_after g l ms) m →
    w (edge_of m) + cycles_left g l w n (after g l (state_after g l ms) m) ≤ cycles_left g l w n (state_after g l ms)

-- A step within a function lowers them by exactly its weight, its slack, and the turns that are left of each loop that it leaves.
abbrev pub StepAlong : Type 0
StepAlong = (g : Graph) (l : Loops) (extent : ℕ → ℕ → Bool) (w : ℕ → ℕ) (n : Numbers) → IsAnalyzed g l extent w n →
    (ms : List Transition) (e : ℕ) → AreKept g l (graph_start g) ms → IsKept g l (state_after g l ms) (Along e) →
    cycles_left g l w n (state_after g l ms) ≡
    w e + slack g l n (cost g n w) e + cycles_left g l w n (after g l (state_after g l ms) (Along e)) + left_behind g l n
    (state_after g l ms).counts e

-- A call that comes back lowers them by exactly its weight.
abbrev pub StepCall : Type 0
StepCall = (g : Graph) (l : Loops) (extent : ℕ → ℕ → Bool) (w : ℕ → ℕ) (n : Numbers) → IsAnalyzed g l extent w n →
    (ms : List Transition) (e f : ℕ) → AreKept g l (graph_start g) ms → IsKept g l (state_after g l ms) (Call e f) →
    IsSome (next_edge g (g.source e)) →
    cycles_left g l w n (state_after g l ms) ≡ w e + cycles_left g l w n (after g l (state_after g l ms) (Call e f))

-- The cycles of a kept run and those left after it are at most the worst cycles.
abbrev pub RunWithinWorst : Type 0
RunWithinWorst = (g : Graph) (l : Loops) (extent : ℕ → ℕ → Bool) (w : ℕ → ℕ) (n : Numbers) → IsAnalyzed g l extent w n →
    (ms : List Transition) → AreKept g l (graph_start g) ms → cycles w ms + cycles_left g l w n (state_after g l ms) ≤ n.worst 0

-- So a kept run takes at most the worst cycles.
abbrev pub CyclesWithinWorst : Type 0
CyclesWithinWorst = (g : Graph) (l : Loops) (extent : ℕ → ℕ → Bool) (w : ℕ → ℕ) (n : Numbers) → IsAnalyzed g l extent w n →
    (ms : List Transition) → AreKept g l (graph_start g) ms → cycles w ms ≤ n.worst 0

-- After a step within a function the cycles left are at most the rest behind its edge,
abbrev pub LeftWithinRest : Type 0
LeftWithinRest = (g : Graph) (l : Loops) (extent : ℕ → ℕ → Bool) (w : ℕ → ℕ) (n : Numbers) → IsAnalyzed g l extent w n →
    (ms : List Transition) (e : ℕ) → AreKept g l (graph_start g) ms → IsKept g l (state_after g l ms) (Along e) →
    cycles_left g l w n (after g l (state_after g l ms) (Along e)) ≤ rest g l n e

-- and so they are with what the turns cost that the loops round its target have taken by then,
abbrev pub LeftWithinRestOfTurns : Type 0
LeftWithinRestOfTurns = (g : Graph) (l : Loops) (extent : ℕ → ℕ → Bool) (w : ℕ → ℕ) (n : Numbers) → IsAnalyzed g l extent w n →
    (ms : List Transition) (e : ℕ) → AreKept g l (graph_start g) ms → IsKept g l (state_after g l ms) (Along e) →
    cycles_left g l w n (after g l (state_after g l ms) (Along e)) + turns_taken l n (after g l (state_after g l ms) (Along e)).counts
    (g.target e) ≤ rest g l n e

-- and after a return at most the rest behind the edge by which the call comes back.
abbrev pub LeftWithinRestOfReturn : Type 0
LeftWithinRestOfReturn = (g : Graph) (l : Loops) (extent : ℕ → ℕ → Bool) (w : ℕ → ℕ) (n : Numbers) → IsAnalyzed g l extent w n →
    (ms : List Transition) (e u d : ℕ) (calls : List ℕ) → AreKept g l (graph_start g) ms → IsKept g l (state_after g l ms) (Return e) →
    (state_after g l ms).calls ≡ u ∷ calls → next_edge g u ≡ Some d →
    cycles_left g l w n (after g l (state_after g l ms) (Return e)) ≤ rest g l n d

-- LEAST CYCLES

-- Where each loop is left only after its least number of turns, a walk costs at least the least charged cost of its kind.
abbrev pub TurnsTakeLeast : Type 0
TurnsTakeLeast = (g : Graph) (l : Loops) (extent : ℕ → ℕ → Bool) (c least turn : ℕ → ℕ) → IsProgram g → AreAccepted g l extent →
    ((k : ℕ) → k < l.loops → 0 < least k → (t : ℕ → Option ℕ) × IsKind g l c least turn (turn_last g l k) (turn_step g l k) t ×
    (t (l.header k) ≡ Some (turn k))) →
    (last step : ℕ → Bool) (t : ℕ → Option ℕ) → IsKind g l c least turn last step t →
    (es : List ℕ) (v : ℕ) (counts : ℕ → ℕ) → IsRun g false last step (Some v) es → KeepsLeast g l least counts es →
    IsUpTo (t v) (total c es)
