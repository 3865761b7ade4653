-- A program as a graph, its loops and its walks.
-- Nodes are addresses. Edges, functions and loops are numbers below their counts.
-- Control-flow graphs, loops with one header, and back edges: Aho, Lam, Sethi and Ullman, Compilers, sections 8.4 and 9.6.
-- Loops have bounds, as in worst-case execution time analysis (Puschner and Koza, Real-Time Systems, 1989).
use Rattle.std.specs.Prelude.{◌≡◌, ℕ, zero, suc, ◌+◌, ◌<◌, ◌≤◌, Bool, true, false, cond, not, ◌&&◌, ◌||◌, ◌⊎◌, nat_eq, List, [], ◌∷◌, Option, Some, None, is_some}

pub record Graph : Type 0 where
  pub edges : ℕ
  -- the node that an edge starts at
  pub source : ℕ → ℕ
  -- the node that it leads to: none for an End edge
  pub target : ℕ → Option ℕ
  -- the function that is called, for the edges of a call
  pub callee : ℕ → Option ℕ
  -- the End edges that are returns, and those that are exits
  pub returns : ℕ → Bool
  pub exits : ℕ → Bool
  pub functions : ℕ
  -- a function's first node
  pub entry : ℕ → ℕ
  -- a node's function
  pub owner : ℕ → ℕ

pub record Loops : Type 0 where
  pub loops : ℕ
  -- the one node of the body to which edges lead from outside
  pub header : ℕ → ℕ
  -- how often a back edge may be taken between two entries from outside
  pub bound : ℕ → ℕ
  -- how often it is taken at least between an entry from outside and a step that leaves the loop
  pub least_trips : ℕ → ℕ
  -- whether a node is in a loop's body
  pub inside : ℕ → ℕ → Bool

-- the same loops, which have to turn so often
abbrev pub with_trips : Loops → (ℕ → ℕ) → Loops
with_trips l trips = record { loops = l.loops; header = l.header; bound = l.bound; least_trips = trips; inside = l.inside }

-- A walk is a list of edges, each from the place to which the one before leads.
-- A place is a node, or none behind an End edge, from which no edge starts.
abbrev pub IsWalk : Graph → Option ℕ → List ℕ → Type 0
IsWalk g p [] = Unit {0}
IsWalk g p (e ∷ es) = (e < g.edges) × (p ≡ Some (g.source e)) × IsWalk g (g.target e) es

-- the place to which a walk leads
abbrev pub end_of : Graph → Option ℕ → List ℕ → Option ℕ
end_of g p [] = p
end_of g p (e ∷ es) = end_of g (g.target e) es

-- the sum of the edges' costs
abbrev pub total : (ℕ → ℕ) → List ℕ → ℕ
total c [] = 0
total c (e ∷ es) = c e + total c es

-- the sum of f over the numbers below n
abbrev pub sum_below : ℕ → (ℕ → ℕ) → ℕ
sum_below zero f = 0
sum_below (suc n) f = sum_below n f + f n

-- x where the test holds, else nothing
abbrev pub only : Bool → ℕ → ℕ
only true x = x
only false x = 0

-- whether a loop is round a place: whether the place is in its body
abbrev pub is_round : Loops → ℕ → Option ℕ → Bool
is_round l k None = false
is_round l k (Some v) = l.inside k v

-- whether a place is the header of a loop
abbrev pub is_header : Loops → ℕ → Option ℕ → Bool
is_header l k None = false
is_header l k (Some v) = nat_eq v (l.header k)

-- whether a step from a node to a place goes back: from a loop's body to its header
abbrev pub goes_back : Loops → ℕ → ℕ → Option ℕ → Bool
goes_back l k u p = l.inside k u && is_header l k p

-- whether it enters a loop from outside
abbrev pub enters : Loops → ℕ → ℕ → Option ℕ → Bool
enters l k u p = not (l.inside k u) && is_round l k p

-- whether it leaves a loop; the end of a walk leaves none
abbrev pub leaves : Loops → ℕ → ℕ → Option ℕ → Bool
leaves l k u None = false
leaves l k u (Some v) = l.inside k u && not (l.inside k v)

-- whether an edge is a back edge of a loop
abbrev pub is_back : Graph → Loops → ℕ → ℕ → Bool
is_back g l k e = goes_back l k (g.source e) (g.target e)

-- a plain edge: no back edge of any loop
abbrev pub IsPlain : Graph → Loops → ℕ → Type 0
IsPlain g l e = (k : ℕ) → k < l.loops → is_back g l k e ≡ false

-- a walk of plain edges
abbrev pub IsPlainPath : Graph → Loops → Option ℕ → List ℕ → Type 0
IsPlainPath g l p [] = Unit {0}
IsPlainPath g l p (e ∷ es) = (e < g.edges) × (p ≡ Some (g.source e)) × IsPlain g l e × IsPlainPath g l (g.target e) es

-- a plain path within loop k, closed by one back edge of k
abbrev pub IsClosing : Graph → Loops → ℕ → Option ℕ → List ℕ → Type 0
IsClosing g l k p [] = ⊥
IsClosing g l k p (e ∷ es) =
    (e < g.edges) × (p ≡ Some (g.source e)) ×
    (((is_back g l k e ≡ true) × (es ≡ [])) ⊎
    (IsPlain g l e × (is_round l k (g.target e) ≡ true) × IsClosing g l k (g.target e) es))

-- Each loop's back edges since it was last entered from outside, after a step between two places.
-- A step from the body to the header counts, and any other step to the header begins anew.
abbrev pub count_step : Loops → Option ℕ → Option ℕ → (ℕ → ℕ) → ℕ → ℕ
count_step l from to counts k =
    cond (is_header l k to) (cond (is_round l k from) (counts k + 1) 0) (counts k)

-- no loop's count passes its bound
abbrev pub AreWithin : Loops → (ℕ → ℕ) → Type 0
AreWithin l counts = (k : ℕ) → k < l.loops → counts k ≤ l.bound k

-- the counts stay within the bounds along a walk
abbrev pub IsBounded : Graph → Loops → (ℕ → ℕ) → List ℕ → Type 0
IsBounded g l counts [] = Unit {0}
IsBounded g l counts (e ∷ es) =
    AreWithin l (count_step l (Some (g.source e)) (g.target e) counts) ×
    IsBounded g l (count_step l (Some (g.source e)) (g.target e) counts) es

-- whether a test holds of a number below n, and the least such number
abbrev pub any_below : ℕ → (ℕ → Bool) → Bool
any_below zero p = false
any_below (suc n) p = any_below n p || p n

abbrev pub or_else : Option ℕ → Option ℕ → Option ℕ
or_else None other = other
or_else (Some k) other = Some k

abbrev pub find_below : ℕ → (ℕ → Bool) → Option ℕ
find_below zero p = None
find_below (suc n) p = or_else (find_below n p) (cond (p n) (Some n) None)

-- the edge by which a call at a node comes back, if it does
abbrev pub next_edge : Graph → ℕ → Option ℕ
next_edge g u = find_below g.edges (λ e. nat_eq (g.source e) u && (is_some (g.callee e) && is_some (g.target e)))
