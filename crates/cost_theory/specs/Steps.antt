-- Runs of a program over its graph: the kept steps, and the cycles that are left after them.
-- The cycles left are the remaining worst-case cycles of intra-task voltage scheduling (Shin, Kim and Lee, IEEE Design &
-- Test of Computers, 2001), at a state of the run: they know the loops' counts and the calls that the run is in.
use Rattle.std.specs.Prelude.{◌≡◌, ℕ, ◌+◌, ◌-◌, ◌<◌, ◌≤◌, Bool, true, false, List, [], ◌∷◌, Option, Some, None, IsSome}
use Rattle.cost_theory.specs.Graph.{Graph, Loops, sum_below, only, leaves, count_step, AreWithin, next_edge}
use Rattle.cost_theory.specs.Worst.{Numbers, cost, left_from, turns}

-- Where a run stands: its node, or none where it has exited; the sites of the calls that it is in, the innermost first;
-- and each loop's back edges since it was last entered.
pub record GraphState : Type 0 where
  pub node : Option ℕ
  pub calls : List ℕ
  pub counts : ℕ → ℕ

-- A step, with the edge that it goes over. A call, a return and an exit go over their End edge.
pub data Transition : Type 0 where
  Along : (e : ℕ) → Transition
  Call : (e f : ℕ) → Transition
  Return : (e : ℕ) → Transition
  Exit : (e : ℕ) → Transition

-- the edge of a step
abbrev pub edge_of : Transition → ℕ
edge_of (Along e) = e
edge_of (Call e f) = e
edge_of (Return e) = e
edge_of (Exit e) = e

-- back to the site of the innermost call, and on over the edge by which it comes back
abbrev pub go_back : Graph → Loops → ℕ → Option ℕ → List ℕ → (ℕ → ℕ) → GraphState
go_back g l u None calls counts = record { node = None; calls = calls; counts = counts }
go_back g l u (Some e) calls counts = record { node = g.target e; calls = calls; counts = count_step l (Some u) (g.target e) counts }

-- after a return; with no call to go back to the run stands nowhere
abbrev pub after_return : Graph → Loops → List ℕ → (ℕ → ℕ) → GraphState
after_return g l [] counts = record { node = None; calls = []; counts = counts }
after_return g l (u ∷ calls) counts = go_back g l u (next_edge g u) calls counts

-- the state after a step
abbrev pub after : Graph → Loops → GraphState → Transition → GraphState
after g l s (Along e) = record { node = g.target e; calls = s.calls; counts = count_step l (Some (g.source e)) (g.target e) s.counts }
after g l s (Call e f) =
    record { node = Some (g.entry f); calls = g.source e ∷ s.calls; counts = count_step l None (Some (g.entry f)) s.counts }
after g l s (Return e) = after_return g l s.calls s.counts
after g l s (Exit e) = record { node = None; calls = s.calls; counts = s.counts }

-- the innermost call comes back
abbrev pub ComesBack : Graph → List ℕ → Type 0
ComesBack g [] = ⊥
ComesBack g (u ∷ calls) = IsSome (next_edge g u)

-- what the edge of a step is
abbrev pub IsTransition : Graph → GraphState → Transition → Type 0
IsTransition g s (Along e) = (g.callee e ≡ None) × IsSome (g.target e)
IsTransition g s (Call e f) = (g.callee e ≡ Some f) × (g.target e ≡ None)
IsTransition g s (Return e) = (g.returns e ≡ true) × ComesBack g s.calls
IsTransition g s (Exit e) = g.exits e ≡ true

-- Whether a step leaves a loop. Only a step within a function does: a call goes on at its site, and a return comes back there.
abbrev pub is_left_by : Graph → Loops → Transition → ℕ → Bool
is_left_by g l (Along e) k = leaves l k (g.source e) (g.target e)
is_left_by g l (Call e f) k = false
is_left_by g l (Return e) k = false
is_left_by g l (Exit e) k = false

-- no loop is left before its least number of back edges
abbrev pub AreLeftLate : Graph → Loops → Transition → (ℕ → ℕ) → Type 0
AreLeftLate g l m counts = (k : ℕ) → k < l.loops → is_left_by g l m k ≡ true → l.least_trips k ≤ counts k

-- a step that breaks no bound, above or below
pub record IsKept (g : Graph) (l : Loops) (s : GraphState) (m : Transition) : Type 0 where
  pub edge : edge_of m < g.edges
  pub from : s.node ≡ Some (g.source (edge_of m))
  pub move : IsTransition g s m
  pub within : AreWithin l (after g l s m).counts
  pub late : AreLeftLate g l m (after g l s m).counts

-- each of these steps breaks no bound
abbrev pub AreKept : Graph → Loops → GraphState → List Transition → Type 0
AreKept g l s [] = Unit {0}
AreKept g l s (m ∷ ms) = IsKept g l s m × AreKept g l (after g l s m) ms

-- the state after these steps
abbrev pub after_all : Graph → Loops → GraphState → List Transition → GraphState
after_all g l s [] = s
after_all g l s (m ∷ ms) = after_all g l (after g l s m) ms

-- the last step of the run exits
abbrev pub EndsByExit : List Transition → Type 0
EndsByExit [] = ⊥
EndsByExit (m ∷ []) = (e : ℕ) × (m ≡ Exit e)
EndsByExit (m ∷ k ∷ ms) = EndsByExit (k ∷ ms)

-- a run starts at the entry of the first function, in no call, with all counts 0
abbrev pub graph_start : Graph → GraphState
graph_start g = record { node = Some (g.entry 0); calls = []; counts = λ k. 0 }

-- where a run stands after these steps from the start
abbrev pub state_after : Graph → Loops → List Transition → GraphState
state_after g l ms = after_all g l (graph_start g) ms

-- the cycles of the steps
abbrev pub cycles : (ℕ → ℕ) → List Transition → ℕ
cycles w [] = 0
cycles w (m ∷ ms) = w (edge_of m) + cycles w ms

-- what is left behind a suspended call: at its site, less the cost of the call, and the turns left of the loops round it
abbrev pub left_call : Graph → Loops → (ℕ → ℕ) → Numbers → (ℕ → ℕ) → ℕ → ℕ → ℕ
left_call g l w n counts u e = n.left u - cost g n w e + sum_below l.loops (λ k. only (l.inside k u) (turns l n counts k))

-- of the suspended calls, from the innermost outwards, up to the first that does not come back
abbrev pub add_call : Graph → Loops → (ℕ → ℕ) → Numbers → (ℕ → ℕ) → ℕ → Option ℕ → ℕ → ℕ
add_call g l w n counts u None rest = 0
add_call g l w n counts u (Some e) rest = left_call g l w n counts u e + rest

abbrev pub left_calls : Graph → Loops → (ℕ → ℕ) → Numbers → (ℕ → ℕ) → List ℕ → ℕ
left_calls g l w n counts [] = 0
left_calls g l w n counts (u ∷ calls) = add_call g l w n counts u (next_edge g u) (left_calls g l w n counts calls)

-- at a node within these calls, and nothing after an exit
abbrev pub left_at_node : Graph → Loops → (ℕ → ℕ) → Numbers → Option ℕ → List ℕ → (ℕ → ℕ) → ℕ
left_at_node g l w n None calls counts = 0
left_at_node g l w n (Some v) calls counts = left_from l n (Some v) counts + left_calls g l w n counts calls

-- the cycles left
abbrev pub cycles_left : Graph → Loops → (ℕ → ℕ) → Numbers → GraphState → ℕ
cycles_left g l w n s = left_at_node g l w n s.node s.calls s.counts
