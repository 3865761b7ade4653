-- Scaffold: the laws of the least cycles with charged loops, as statements for the contracts of functions.
use Rattle.std.specs.Prelude.{◌≡◌, ◌≢◌, ℕ, ◌+◌, ◌*◌, ◌<◌, ◌≤◌, Bool, true, false, ◌⊎◌, List, ◌∷◌, ◌++◌, Option, Some, None, option_map}
use Rattle.cost_theory.specs.Graph.{Graph, Loops, total, sum_below, only, enters, is_back, next_edge}
use Rattle.cost_theory.specs.Worst.{Numbers, AreNumbers, all_of}
use Rattle.cost_theory.specs.Accepted.{IsProgram, AreAccepted, AreWeights}
use Rattle.cost_theory.specs.Steps.{Transition, IsKept, AreKept, EndsByExit, graph_start, state_after, after, cycles}
use Rattle.cost_theory.specs.Steps.Transition.{Along, Return}
use Rattle.cost_theory.specs.Least.{IsLeastIfAny, IsUpTo}
use Rattle.cost_theory.specs.LeastTurns.{IsRun, turn_step, turn_last}
use Rattle.cost_theory.specs.declared.flow.Flow.{Flow}
use Rattle.cost_theory.specs.Reached.{Code, IsCodeOf, HasNoBadWord, graph_of}
use Rattle.cycle_laws.specs.Charged.{Charged, charged_trips, charge_of, charged_cost, leads_on, ends_exit, AreCharged, to_end_after, owed, HasPlainReturns}

-- an accepted program with its loops, weights of its edges, and the least cycles under these weights
pub record IsCharged (g : Graph) (l : Loops) (extent : ℕ → ℕ → Bool) (w : ℕ → ℕ) (n : Charged) : Type 0 where
  pub program : IsProgram g
  pub returns : HasPlainReturns g
  pub accepted : AreAccepted g l extent
  pub weights : AreWeights g w
  pub numbers : AreCharged g l w n

-- two records of these numbers hold the same
pub record AreAlike (l : Loops) (n n' : Charged) : Type 0 where
  pub to_return : (v : ℕ) → n.least.to_return v ≡ n'.least.to_return v
  pub to_exit : (v : ℕ) → n.least.to_exit v ≡ n'.least.to_exit v
  pub to_end : (v : ℕ) → n.least.to_end v ≡ n'.least.to_end v
  pub closing : (k v : ℕ) → k < l.loops → n.closing k v ≡ n'.closing k v
  pub turn : (k : ℕ) → k < l.loops → n.turn k ≡ n'.turn k

-- An accepted program has such numbers, under any weights,
abbrev pub ChargedExist : Type 0
ChargedExist = (g : Graph) (l : Loops) (extent : ℕ → ℕ → Bool) (w : ℕ → ℕ) → IsProgram g → AreAccepted g l extent → (n : Charged) ×
    AreCharged g l w n

-- and no others.
abbrev pub ChargedAgree : Type 0
ChargedAgree = (g : Graph) (l : Loops) (extent : ℕ → ℕ → Bool) (w : ℕ → ℕ) (n n' : Charged) → IsCharged g l extent w n →
    AreCharged g l w n' → AreAlike l n n'

-- REACHED CODE

-- In the graph over reached code a call comes back to one node, and nothing leads on from a return.
abbrev pub ReachedCodeHasPlainReturns : Type 0
ReachedCodeHasPlainReturns = (word : ℕ → Flow) (first : ℕ) (code : Code) → IsCodeOf word first code → HasNoBadWord word first →
    HasPlainReturns (graph_of word code)

-- CHARGES

-- An edge that leads to no header is charged nothing,
abbrev pub LeastChargedOn : Type 0
LeastChargedOn = (g : Graph) (l : Loops) (extent : ℕ → ℕ → Bool) (w : ℕ → ℕ) (n : Charged) → IsCharged g l extent w n →
    (e : ℕ) → e < g.edges → ((k : ℕ) → k < l.loops → g.target e ≢ Some (l.header k)) → charge_of g l n e ≡ 0

-- nor is a back edge,
abbrev pub LeastChargedBack : Type 0
LeastChargedBack = (g : Graph) (l : Loops) (extent : ℕ → ℕ → Bool) (w : ℕ → ℕ) (n : Charged) → IsCharged g l extent w n →
    (e k : ℕ) → e < g.edges → k < l.loops → is_back g l k e ≡ true → charge_of g l n e ≡ 0

-- and an edge that enters a loop from outside is charged the turns that it has to take.
abbrev pub LeastChargedInto : Type 0
LeastChargedInto = (g : Graph) (l : Loops) (extent : ℕ → ℕ → Bool) (w : ℕ → ℕ) (n : Charged) → IsCharged g l extent w n →
    (e k : ℕ) → e < g.edges → k < l.loops → g.target e ≡ Some (l.header k) → is_back g l k e ≡ false →
    charge_of g l n e ≡ charged_trips g l n.least k * n.turn k

-- ONE EDGE

-- Over an edge a run of a kind costs b: the edge ends it, or it steps to a node from which the least cost of such a run is there.
abbrev pub IsOverEdge : Graph → (ℕ → Bool) → (ℕ → Bool) → (ℕ → ℕ) → (ℕ → Option ℕ) → ℕ → ℕ → Type 0
IsOverEdge g last step c t e b =
    ((last e ≡ true) × (b ≡ c e)) ⊎
    ((step e ≡ true) × ((u : ℕ) × (more : ℕ) × (g.target e ≡ Some u) × (t u ≡ Some more) × (b ≡ c e + more)))

-- The number of a node is the least over its edges, and is there where one of them has one.
pub record IsLeastOver (g : Graph) (last step : ℕ → Bool) (c : ℕ → ℕ) (t : ℕ → Option ℕ) (v : ℕ) : Type 0 where
  pub absent : t v ≡ None → (e b : ℕ) → e < g.edges → g.source e ≡ v → IsOverEdge g last step c t e b → ⊥
  pub attained : (m : ℕ) → t v ≡ Some m → (e : ℕ) × (e < g.edges) × (g.source e ≡ v) × IsOverEdge g last step c t e m
  pub least : (m : ℕ) → t v ≡ Some m → (e b : ℕ) → e < g.edges → g.source e ≡ v → IsOverEdge g last step c t e b → m ≤ b

-- So it is of the least cycles to a return,
abbrev pub ReturnOver : Type 0
ReturnOver = (g : Graph) (l : Loops) (w : ℕ → ℕ) (n : Charged) → AreCharged g l w n →
    (v : ℕ) → IsLeastOver g g.returns (leads_on g) (charged_cost g l w n) n.least.to_return v

-- to an exit,
abbrev pub ExitOver : Type 0
ExitOver = (g : Graph) (l : Loops) (w : ℕ → ℕ) (n : Charged) → AreCharged g l w n →
    (v : ℕ) → IsLeastOver g (ends_exit g n.least) (leads_on g) (charged_cost g l w n) n.least.to_exit v

-- and of the rest of a turn.
abbrev pub LeastClosingOver : Type 0
LeastClosingOver = (g : Graph) (l : Loops) (w : ℕ → ℕ) (n : Charged) → AreCharged g l w n →
    (k v : ℕ) → k < l.loops → IsLeastOver g (turn_last g l k) (turn_step g l k) (charged_cost g l w n) (n.closing k) v

-- The other way round: a table of numbers that runs of a kind have, and that no edge improves, holds the least.
abbrev pub StableIsLeast : Type 0
StableIsLeast = (g : Graph) (last step : ℕ → Bool) (c : ℕ → ℕ) (t : ℕ → Option ℕ) →
    ((v x : ℕ) → t v ≡ Some x → (es : List ℕ) × IsRun g false last step (Some v) es × (total c es ≡ x)) →
    ((e b : ℕ) → e < g.edges → IsOverEdge g last step c t e b → IsUpTo (t (g.source e)) b) →
    (v : ℕ) → IsLeastIfAny (IsRun g false last step (Some v)) (total c) (t v)

-- BOUNDS

-- No loop has to turn more often than it may.
abbrev pub HaveFewTrips : Loops → Type 0
HaveFewTrips l = (k : ℕ) → k < l.loops → l.least_trips k ≤ l.bound k

-- Then the least cost of one turn is at most the greatest of one iteration,
abbrev pub TurnWithinIteration : Type 0
TurnWithinIteration = (g : Graph) (l : Loops) (extent : ℕ → ℕ → Bool) (w : ℕ → ℕ) (n : Charged) (a : Numbers) → IsCharged g l extent w n →
    AreNumbers g l w a → HaveFewTrips l →
    (k : ℕ) → k < l.loops → n.turn k ≤ a.iteration k

-- what an edge is charged with least trips is at most what it is charged with all turns,
abbrev pub ChargeWithinTurns : Type 0
ChargeWithinTurns = (g : Graph) (l : Loops) (extent : ℕ → ℕ → Bool) (w : ℕ → ℕ) (n : Charged) (a : Numbers) → IsCharged g l extent w n →
    AreNumbers g l w a → HaveFewTrips l →
    (e : ℕ) → e < g.edges → charge_of g l n e ≤ sum_below l.loops (λ k. only (enters l k (g.source e) (g.target e)) (all_of l a k))

-- which are at most the program's worst cycles,
abbrev pub ChargeWithinWorst : Type 0
ChargeWithinWorst = (g : Graph) (l : Loops) (extent : ℕ → ℕ → Bool) (w : ℕ → ℕ) (n : Charged) (a : Numbers) → IsCharged g l extent w n →
    AreNumbers g l w a → HaveFewTrips l →
    (e : ℕ) → e < g.edges → charge_of g l n e ≤ a.worst 0

-- and the least cycles from a function's entry to a return are at most its worst cycles.
abbrev pub ReturnWithinWorst : Type 0
ReturnWithinWorst = (g : Graph) (l : Loops) (extent : ℕ → ℕ → Bool) (w : ℕ → ℕ) (n : Charged) (a : Numbers) → IsCharged g l extent w n →
    AreNumbers g l w a → HaveFewTrips l →
    (f r : ℕ) → f < g.functions → n.least.to_return (g.entry f) ≡ Some r → r ≤ a.worst f

-- Where an edge that leads on costs at most some number, which is also at least each weight, the least cycles to an end are at most that number,
-- once for each edge, for each function on the way in and again on the way out.
abbrev pub EndWithin : Type 0
EndWithin = (g : Graph) (l : Loops) (extent : ℕ → ℕ → Bool) (w : ℕ → ℕ) (n : Charged) → IsCharged g l extent w n →
    (most : ℕ) → ((e : ℕ) → e < g.edges → w e ≤ most) → ((e u : ℕ) → e < g.edges → g.target e ≡ Some u → charged_cost g l w n e ≤ most) →
    (v z : ℕ) → n.least.to_end v ≡ Some z → z ≤ g.functions * (g.edges * most) + g.functions * (g.edges * most)

-- The least cost of a run of a kind is at most as many times the greatest cost of an edge as there are edges.
abbrev pub LeastWithinEdges : Type 0
LeastWithinEdges = (g : Graph) (last step : ℕ → Bool) (c : ℕ → ℕ) (v x most : ℕ) →
    IsLeastIfAny (IsRun g false last step (Some v)) (total c) (Some x) →
    ((e : ℕ) → e < g.edges → c e ≤ most) → x ≤ g.edges * most

-- RUNS

-- From a node that a kept run has come to, a kept run that ends by an exit takes at least the node's least cycles to an end, and what it owes there.
abbrev pub ExitTakesCharged : Type 0
ExitTakesCharged = (g : Graph) (l : Loops) (extent : ℕ → ℕ → Bool) (w : ℕ → ℕ) (n : Charged) → IsCharged g l extent w n →
    (ms more : List Transition) (v : ℕ) → AreKept g l (graph_start g) ms → (state_after g l ms).node ≡ Some v →
    AreKept g l (state_after g l ms) more → EndsByExit more →
    IsUpTo (option_map (λ z. z + owed g l n v (state_after g l ms).counts) (n.least.to_end v)) (cycles w more)

-- After a step within a function it takes at least the least cycles to an end behind its edge,
abbrev pub ExitTakesLeastBehind : Type 0
ExitTakesLeastBehind = (g : Graph) (l : Loops) (extent : ℕ → ℕ → Bool) (w : ℕ → ℕ) (n : Charged) → IsCharged g l extent w n →
    (ms more : List Transition) (e : ℕ) → AreKept g l (graph_start g) ms → IsKept g l (state_after g l ms) (Along e) →
    AreKept g l (after g l (state_after g l ms) (Along e)) more → EndsByExit more → IsUpTo (to_end_after g l n e) (cycles w more)

-- and after a return those behind the edge by which the call comes back.
abbrev pub ExitTakesLeastBehindReturn : Type 0
ExitTakesLeastBehindReturn = (g : Graph) (l : Loops) (extent : ℕ → ℕ → Bool) (w : ℕ → ℕ) (n : Charged) → IsCharged g l extent w n →
    (ms more : List Transition) (e u d : ℕ) (calls : List ℕ) → AreKept g l (graph_start g) ms → IsKept g l (state_after g l ms) (Return e) →
    (state_after g l ms).calls ≡ u ∷ calls → next_edge g u ≡ Some d →
    AreKept g l (after g l (state_after g l ms) (Return e)) more → EndsByExit more → IsUpTo (to_end_after g l n d) (cycles w more)

-- So along a kept run that exits, what follows a step within a function takes at least the least cycles behind its edge.
abbrev pub RunTakesLeastBehind : Type 0
RunTakesLeastBehind = (g : Graph) (l : Loops) (extent : ℕ → ℕ → Bool) (w : ℕ → ℕ) (n : Charged) → IsCharged g l extent w n →
    (ms more : List Transition) (e : ℕ) → AreKept g l (graph_start g) (ms ++ Along e ∷ more) → EndsByExit more →
    IsUpTo (to_end_after g l n e) (cycles w more)
