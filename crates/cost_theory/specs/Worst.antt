-- The worst cycles, and the numbers that stand behind them.
-- Worst cycles are the cost of the longest path with bounded loops (Puschner and Koza, Real-Time Systems, 1989; Li and
-- Malik, DAC 1995). What is left at a node serves the remaining worst-case cycles of intra-task voltage scheduling (Shin,
-- Kim and Lee, IEEE Design & Test of Computers, 2001), in a form that adds up along a run.
use Rattle.std.specs.Prelude.{◌≡◌, ◌≢◌, ℕ, ◌+◌, ◌-◌, ◌*◌, ◌<◌, ◌≤◌, true, ◌⊎◌, List, Option, Some, None, unwrap_or}
use Rattle.cost_theory.specs.Graph.{Graph, Loops, IsWalk, IsBounded, IsPlainPath, IsClosing, total, sum_below, only, is_round, is_back, enters, leaves}

-- some thing has this value, and none has a greater one
pub record IsGreatest {A : Type 0} (P : A → Type 0) (value : A → ℕ) (m : ℕ) : Type 0 where
  pub reached : (a : A) × P a × (value a ≡ m)
  pub most : (a : A) → P a → value a ≤ m

-- the same, or none where there is no such thing
abbrev pub IsGreatestIfAny : {A : Type 0} → (A → Type 0) → (A → ℕ) → Option ℕ → Type 0
IsGreatestIfAny {A = A} P value None = (a : A) → P a → ⊥
IsGreatestIfAny P value (Some m) = IsGreatest P value m

-- the value of a table at an optional index
abbrev pub at_some : Option ℕ → (ℕ → ℕ) → ℕ
at_some None f = 0
at_some (Some x) f = f x

pub record Numbers : Type 0 where
  -- by function: the worst cycles of one call
  pub worst : ℕ → ℕ
  -- by loop: the greatest cost of one iteration
  pub iteration : ℕ → ℕ
  -- by node: the greatest cost of a plain path
  pub plain : ℕ → ℕ
  -- by loop and node: the greatest cost of the rest of an iteration, where there is one
  pub closing : ℕ → ℕ → Option ℕ
  -- by node: what is left of the function, without the turns that the loops round the node have left
  pub left : ℕ → ℕ
  -- by function: what is left of its callers behind a call of it
  pub context : ℕ → ℕ

-- what an edge costs: its weight, and each edge of a call, its end among them, the worst cycles of the called function
abbrev pub cost : Graph → Numbers → (ℕ → ℕ) → ℕ → ℕ
cost g n w e = w e + at_some (g.callee e) n.worst

-- a loop's bound times the greatest cost of one iteration
abbrev pub all_of : Loops → Numbers → ℕ → ℕ
all_of l n k = l.bound k * n.iteration k

-- an edge's cost with all turns of the loops that it enters from outside
abbrev pub charged : Graph → Loops → Numbers → (ℕ → ℕ) → ℕ → ℕ
charged g l n c e = c e + sum_below l.loops (λ k. only (enters l k (g.source e) (g.target e)) (all_of l n k))

-- What is left at a node is the greatest of two kinds: the plain paths from there; and for each loop round the node whose
-- header it isn't, where an iteration has a rest from there, that rest and what is left at the header, less one iteration.
-- It is stated without subtraction, since that difference may be negative.
pub record IsLeft (l : Loops) (n : Numbers) (v : ℕ) : Type 0 where
  pub over_plain : n.plain v ≤ n.left v
  pub over_closing : (k b : ℕ) → k < l.loops → l.inside k v ≡ true → l.header k ≢ v → n.closing k v ≡ Some b →
      b + n.left (l.header k) ≤ n.left v + n.iteration k
  pub attained : (n.left v ≡ n.plain v) ⊎
      ((k : ℕ) × (b : ℕ) × (k < l.loops) × (l.inside k v ≡ true) × (l.header k ≢ v) × (n.closing k v ≡ Some b) ×
      (n.left v + n.iteration k ≡ b + n.left (l.header k)))

-- the iterations, the plain and closing paths and what is left, for edges of these costs
pub record AreLoopNumbers (g : Graph) (l : Loops) (c : ℕ → ℕ) (n : Numbers) : Type 0 where
  pub iteration : (k : ℕ) → k < l.loops →
      IsGreatest (IsClosing g l k (Some (l.header k))) (total (charged g l n c)) (n.iteration k)
  pub plain : (v : ℕ) → IsGreatest (IsPlainPath g l (Some v)) (total (charged g l n c)) (n.plain v)
  pub closing : (k v : ℕ) → k < l.loops → l.inside k v ≡ true →
      IsGreatestIfAny (IsClosing g l k (Some v)) (total (charged g l n c)) (n.closing k v)
  pub left : (v : ℕ) → IsLeft l n v

-- a walk from a node along which no loop takes more back edges than its bound since its last entry
abbrev pub IsBoundedWalk : Graph → Loops → ℕ → List ℕ → Type 0
IsBoundedWalk g l v es = IsWalk g (Some v) es × IsBounded g l (λ k. 0) es

-- worst cycles: the greatest cost of such a walk from a function's entry
abbrev pub AreWorst : Graph → Loops → (ℕ → ℕ) → Numbers → Type 0
AreWorst g l w n = (f : ℕ) → f < g.functions →
    IsGreatest (IsBoundedWalk g l (g.entry f)) (total (cost g n w)) (n.worst f)

-- what is left at a place: nothing behind the end of a walk
abbrev pub left_at : Numbers → Option ℕ → ℕ
left_at n None = 0
left_at n (Some v) = n.left v

-- one iteration of the loop that an edge turns back
abbrev pub turn_back : Graph → Loops → Numbers → ℕ → ℕ
turn_back g l n e = sum_below l.loops (λ k. only (is_back g l k e) (n.iteration k))

-- The slack of an edge: what is left before it, less its cost and what is left behind it, and one iteration more where it
-- is a back edge. On accepted programs the difference is never negative.
abbrev pub slack : Graph → Loops → Numbers → (ℕ → ℕ) → ℕ → ℕ
slack g l n c e = n.left (g.source e) + turn_back g l n e - (charged g l n c e + left_at n (g.target e))

-- what the turns that a loop has left may cost
abbrev pub turns : Loops → Numbers → (ℕ → ℕ) → ℕ → ℕ
turns l n counts k = (l.bound k - counts k) * n.iteration k

-- the cycles left in a function at a place, with these counts: what is left there, and the turns left of each loop round it
abbrev pub left_from : Loops → Numbers → Option ℕ → (ℕ → ℕ) → ℕ
left_from l n p counts = left_at n p + sum_below l.loops (λ k. only (is_round l k p) (turns l n counts k))

-- the same of the loops that an edge leaves
abbrev pub left_behind : Graph → Loops → Numbers → (ℕ → ℕ) → ℕ → ℕ
left_behind g l n counts e = sum_below l.loops (λ k. only (leaves l k (g.source e) (g.target e)) (turns l n counts k))

-- an edge by which a call of f comes back
pub record IsReturningCall (g : Graph) (f e : ℕ) : Type 0 where
  pub edge : e < g.edges
  pub calls : g.callee e ≡ Some f
  pub returns : (v : ℕ) × (g.target e ≡ Some v)

-- all turns of the loops round a place
abbrev pub turns_round : Loops → Numbers → Option ℕ → ℕ
turns_round l n p = sum_below l.loops (λ k. only (is_round l k p) (all_of l n k))

-- what is left behind such a call: of the function that calls, with all turns round the call, and of its own callers
abbrev pub context_of : Graph → Loops → (ℕ → ℕ) → Numbers → ℕ → ℕ
context_of g l w n e =
    n.left (g.source e) - cost g n w e + turns_round l n (Some (g.source e)) + n.context (g.owner (g.source e))

-- the context of a function: the greatest of these, none for the program's entry, and none where no call comes back
abbrev pub IsContext : Graph → Loops → (ℕ → ℕ) → Numbers → ℕ → Type 0
IsContext g l w n f =
    ((f ≡ 0) × (n.context f ≡ 0)) ⊎
    ((f ≢ 0) × ((o : Option ℕ) × IsGreatestIfAny (IsReturningCall g f) (context_of g l w n) o × (n.context f ≡ unwrap_or o 0)))

-- what the turns that the loops round a place have taken cost at most
abbrev pub turns_taken : Loops → Numbers → (ℕ → ℕ) → Option ℕ → ℕ
turns_taken l n counts p = sum_below l.loops (λ k. only (is_round l k p) (counts k * n.iteration k))

-- the rest: what is left at most of the program after an edge to a node
abbrev pub rest : Graph → Loops → Numbers → ℕ → ℕ
rest g l n e = left_at n (g.target e) + turns_round l n (g.target e) + n.context (g.owner (g.source e))

-- all numbers of a program under weights w
pub record AreNumbers (g : Graph) (l : Loops) (w : ℕ → ℕ) (n : Numbers) : Type 0 where
  pub worst : AreWorst g l w n
  pub loops : AreLoopNumbers g l (cost g n w) n
  pub context : (f : ℕ) → f < g.functions → IsContext g l w n f
