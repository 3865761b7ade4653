-- Which graphs are programs, and which loops are accepted in them: the reducible loops of a control-flow graph, entered at
-- their headers alone and nested or apart (Aho, Lam, Sethi and Ullman, Compilers, section 9.6).
use Rattle.std.specs.Prelude.{◌≡◌, ◌≢◌, ℕ, ◌<◌, Bool, true, false, ◌↔◌, ◌⊎◌, List, [], ◌∷◌, Some, None}
use Rattle.cost_theory.specs.Graph.{Graph, Loops, IsWalk, end_of, IsPlain, IsPlainPath, is_back, sum_below, only}

-- a node: an edge starts there, since each reached word has an edge
abbrev pub IsNode : Graph → ℕ → Type 0
IsNode g v = (e : ℕ) × (e < g.edges) × (g.source e ≡ v)

-- a call of function f at node u
abbrev pub IsCall : Graph → ℕ → ℕ → Type 0
IsCall g u f = (e : ℕ) × (e < g.edges) × (g.source e ≡ u) × (g.callee e ≡ Some f)

-- a list of functions, each called by the one before, from f to the last
abbrev pub AreCalls : Graph → ℕ → List ℕ → ℕ → Type 0
AreCalls g f [] last = f ≡ last
AreCalls g f (next ∷ fs) last = ((u : ℕ) × (g.owner u ≡ f) × IsCall g u next) × AreCalls g next fs last

-- no list of calls leads from a function to itself
abbrev pub HasNoRecursion : Graph → Type 0
HasNoRecursion g = (f next : ℕ) (fs : List ℕ) → AreCalls g f (next ∷ fs) f → ⊥

-- the edges of a reached program whose functions share no code
pub record IsProgram (g : Graph) : Type 0 where
  pub main : 0 < g.functions
  pub entry_owner : (f : ℕ) → f < g.functions → g.owner (g.entry f) ≡ f
  pub owner_function : (e : ℕ) → e < g.edges → g.owner (g.source e) < g.functions
  -- each node is reached by a walk from its function's entry, and a walk stays in its function
  pub reached : (e : ℕ) → e < g.edges →
      (es : List ℕ) × IsWalk g (Some (g.entry (g.owner (g.source e)))) es ×
      (end_of g (Some (g.entry (g.owner (g.source e)))) es ≡ Some (g.source e))
  pub stays : (e v : ℕ) → e < g.edges → g.target e ≡ Some v → IsNode g v × (g.owner v ≡ g.owner (g.source e))
  pub entry_node : (f : ℕ) → f < g.functions → IsNode g (g.entry f)
  -- calls: the edges of one node call one function or none, and one of them is its End edge
  pub callee_function : (e f : ℕ) → e < g.edges → g.callee e ≡ Some f → f < g.functions
  pub one_callee : (d e : ℕ) → d < g.edges → e < g.edges → g.source d ≡ g.source e → g.callee d ≡ g.callee e
  pub call_end : (u f : ℕ) → IsCall g u f → (e : ℕ) × (e < g.edges) × (g.source e ≡ u) × (g.callee e ≡ Some f) × (g.target e ≡ None)
  -- a call comes back where its function has a return
  pub comes_back : (u f r : ℕ) → IsCall g u f → r < g.edges → g.returns r ≡ true → g.owner (g.source r) ≡ f →
      (e : ℕ) × (v : ℕ) × (e < g.edges) × (g.source e ≡ u) × (g.callee e ≡ Some f) × (g.target e ≡ Some v)
  pub comes_back_only : (e f v : ℕ) → e < g.edges → g.callee e ≡ Some f → g.target e ≡ Some v →
      (r : ℕ) × (r < g.edges) × (g.returns r ≡ true) × (g.owner (g.source r) ≡ f)
  -- each function but the first is called
  pub called : (f : ℕ) → f < g.functions → f ≢ 0 → (u : ℕ) × IsCall g u f
  -- returns and exits are End edges, and no calls
  pub return_end : (e : ℕ) → e < g.edges → g.returns e ≡ true → (g.target e ≡ None) × (g.callee e ≡ None)
  pub exit_end : (e : ℕ) → e < g.edges → g.exits e ≡ true → (g.target e ≡ None) × (g.callee e ≡ None)
  pub no_recursion : HasNoRecursion g

-- A weight in cycles for each edge, the same for all edges of one call.
abbrev pub AreWeights : Graph → (ℕ → ℕ) → Type 0
AreWeights g w = (d e f : ℕ) → d < g.edges → e < g.edges → g.source d ≡ g.source e → g.callee d ≡ Some f → w d ≡ w e

-- all nodes at which a walk's edges start lie in a set of addresses
abbrev pub StaysWithin : Graph → (ℕ → Bool) → List ℕ → Type 0
StaysWithin g extent [] = Unit {0}
StaysWithin g extent (e ∷ es) = (extent (g.source e) ≡ true) × StaysWithin g extent es

-- The body of a loop: the nodes of its extent, in its header's function, from which the header is reached by a nonempty walk
-- within the extent.
abbrev pub IsInBody : Graph → ℕ → (ℕ → Bool) → ℕ → Type 0
IsInBody g header extent v =
    (g.owner v ≡ g.owner header) × (extent header ≡ true) ×
    ((e : ℕ) × (es : List ℕ) × IsWalk g (Some v) (e ∷ es) × (end_of g (g.target e) es ≡ Some header) × StaysWithin g extent (e ∷ es))

-- Why loops are refused. The header is no node.
abbrev pub IsUnreachedHeader : Graph → Loops → ℕ → Type 0
IsUnreachedHeader g l k = IsNode g (l.header k) → ⊥

-- two loops have one header
abbrev pub HaveSameHeader : Loops → ℕ → ℕ → Type 0
HaveSameHeader l j k = (j < k) × (l.header j ≡ l.header k)

-- no edge goes from the body to the header, as where the body is empty
abbrev pub HasNoBackEdge : Graph → Loops → ℕ → Type 0
HasNoBackEdge g l k = (e : ℕ) → e < g.edges → is_back g l k e ≡ false

-- an edge from outside the body goes to a body node that isn't the header, or the function's entry is such a node
abbrev pub IsSideEntry : Graph → Loops → ℕ → ℕ → ℕ → Type 0
IsSideEntry g l k from to = (l.inside k to ≡ true) × (to ≢ l.header k) ×
    (((e : ℕ) × (e < g.edges) × (g.source e ≡ from) × (g.target e ≡ Some to) × (l.inside k from ≡ false)) ⊎
    ((from ≡ to) × ((f : ℕ) × (f < g.functions) × (g.entry f ≡ to))))

-- two bodies share a node, and neither holds the other
abbrev pub AreCrossing : Loops → ℕ → ℕ → Type 0
AreCrossing l j k =
    ((v : ℕ) × (l.inside j v ≡ true) × (l.inside k v ≡ true)) ×
    ((v : ℕ) × (l.inside j v ≡ true) × (l.inside k v ≡ false)) ×
    ((v : ℕ) × (l.inside j v ≡ false) × (l.inside k v ≡ true))

-- the header is in more than 16 bodies
abbrev pub IsTooDeep : Loops → ℕ → Type 0
IsTooDeep l k = 16 < sum_below l.loops (λ j. only (l.inside j (l.header k)) 1)

-- a nonempty plain path leads from a node to itself
abbrev pub IsPlainCycle : Graph → Loops → ℕ → List ℕ → Type 0
IsPlainCycle g l v es = (es ≢ []) × IsPlainPath g l (Some v) es × (end_of g (Some v) es ≡ Some v)

-- Loops with these bodies, each of which has a back edge and is entered at its header alone.
pub record AreEntered (g : Graph) (l : Loops) (extent : ℕ → ℕ → Bool) : Type 0 where
  pub bodies : (k v : ℕ) → k < l.loops → (l.inside k v ≡ true) ↔ IsInBody g (l.header k) (extent k) v
  pub header_reached : (k : ℕ) → k < l.loops → IsUnreachedHeader g l k → ⊥
  pub distinct : (j k : ℕ) → k < l.loops → HaveSameHeader l j k → ⊥
  pub back_edge : (k : ℕ) → k < l.loops → HasNoBackEdge g l k → ⊥
  pub no_side : (k from to : ℕ) → k < l.loops → IsSideEntry g l k from to → ⊥

-- loop j lies within loop k: its nodes are nodes of the other, whose header is none of them
pub record IsWithin (l : Loops) (j k : ℕ) : Type 0 where
  pub holds : (v : ℕ) → l.inside j v ≡ true → l.inside k v ≡ true
  pub header : l.inside j (l.header k) ≡ false

-- loops with these bodies, of which none of that is true
pub record AreAccepted (g : Graph) (l : Loops) (extent : ℕ → ℕ → Bool) : Type 0 where
  pub bodies : (k v : ℕ) → k < l.loops → (l.inside k v ≡ true) ↔ IsInBody g (l.header k) (extent k) v
  pub header_reached : (k : ℕ) → k < l.loops → IsUnreachedHeader g l k → ⊥
  pub distinct : (j k : ℕ) → k < l.loops → HaveSameHeader l j k → ⊥
  pub back_edge : (k : ℕ) → k < l.loops → HasNoBackEdge g l k → ⊥
  pub no_side : (k from to : ℕ) → k < l.loops → IsSideEntry g l k from to → ⊥
  pub no_crossing : (j k : ℕ) → j < l.loops → k < l.loops → AreCrossing l j k → ⊥
  pub not_deep : (k : ℕ) → k < l.loops → IsTooDeep l k → ⊥
  pub no_cycle : (v : ℕ) (es : List ℕ) → IsPlainCycle g l v es → ⊥

-- a loop that has to turn has no nodes in its extent but those of its body
abbrev pub HaveWholeExtents : Graph → Loops → (ℕ → ℕ → Bool) → Type 0
HaveWholeExtents g l extent = (k v : ℕ) → k < l.loops → 0 < l.least_trips k → IsNode g v → extent k v ≡ true → l.inside k v ≡ true

-- an order of the functions, in which a called function stands before its callers
pub record IsCallOrder (g : Graph) (rank : ℕ → ℕ) : Type 0 where
  pub below : (f : ℕ) → f < g.functions → rank f < g.functions
  pub falls : (u f : ℕ) → IsCall g u f → rank f < rank (g.owner u)

-- an order of the nodes along plain edges
pub record IsPlainOrder (g : Graph) (l : Loops) (count : ℕ) (place : ℕ → ℕ) : Type 0 where
  pub below : (v : ℕ) → IsNode g v → place v < count
  pub rises : (e v : ℕ) → e < g.edges → IsPlain g l e → g.target e ≡ Some v → place (g.source e) < place v
