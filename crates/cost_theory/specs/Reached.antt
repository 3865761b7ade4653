-- The reached code of a program: the least set of pairs of a function's entry and a node, and the graph over it.
-- Calls and returns: RISC-V Unprivileged ISA, "Unconditional Jumps", where x1 is the link register. A call is followed by
-- the code behind it only where the called function returns.
use Rattle.std.specs.Prelude.{◌≡◌, ◌≢◌, ℕ, ◌+◌, ◌<◌, Bool, true, false, ◌↔◌, ◌⊎◌, List, [], ◌∷◌, length, slice_get, nat_eq, cond, Option, Some, None, flat_map}
use Rattle.scale_base.specs.declared.edges.Edge.{Edge}
use Rattle.scale_base.specs.declared.edges.EdgeKind.{EdgeKind}
use Rattle.scale_base.specs.declared.edges.EdgeKind.TheVariants.{Taken, Untaken, Jump, Next, CallNext, End}
use Rattle.cost_theory.specs.declared.flow.Flow.{Flow}
use Rattle.cost_theory.specs.declared.flow.Flow.TheVariants as flow
use Rattle.cost_theory.specs.Graph.{Graph, find_below}

-- the nodes to which a word at v leads by itself: a call's way on is none of them
abbrev pub LeadsTo : Flow → ℕ → ℕ → Type 0
LeadsTo (flow.Branch to) v u = (u ≡ to) ⊎ (u ≡ v + 4)
LeadsTo (flow.Jump to) v u = u ≡ to
LeadsTo (flow.Call to) v u = ⊥
LeadsTo flow.Return v u = ⊥
LeadsTo flow.Exit v u = ⊥
LeadsTo flow.MayExit v u = u ≡ v + 4
LeadsTo flow.Breakpoint v u = ⊥
LeadsTo flow.Next v u = u ≡ v + 4
LeadsTo flow.Refused v u = ⊥

-- The reached pairs. Where a function has a reached return, its calls come back.
pub data Reached (word : ℕ → Flow) (first : ℕ) : ℕ → ℕ → Type 0 where
  main : Reached word first first first
  onward : {f v : ℕ} (u : ℕ) → Reached word first f v → LeadsTo (word v) v u → Reached word first f u
  back : {f v : ℕ} (h r : ℕ) → Reached word first f v → word v ≡ flow.Call h → Reached word first h r → word r ≡ flow.Return →
      Reached word first f (v + 4)
  called : {f v : ℕ} (h : ℕ) → Reached word first f v → word v ≡ flow.Call h → Reached word first h h

-- a function that returns
abbrev pub DoesReturn : (ℕ → Flow) → ℕ → ℕ → Type 0
DoesReturn word first h = (r : ℕ) × Reached word first h r × (word r ≡ flow.Return)

-- the edges of a word at v, in the order of their kinds. A call has its way on where its function returns, and its end,
-- for a run that ends within that function, always. A refused word has none.
abbrev pub edges_of : Flow → ℕ → Bool → List Edge
edges_of (flow.Branch to) v returns = record { at = v; kind = Taken; to = to } ∷ record { at = v; kind = Untaken; to = v + 4 } ∷ []
edges_of (flow.Jump to) v returns = record { at = v; kind = Jump; to = to } ∷ []
edges_of (flow.Call to) v true = record { at = v; kind = CallNext; to = v + 4 } ∷ record { at = v; kind = End; to = v } ∷ []
edges_of (flow.Call to) v false = record { at = v; kind = End; to = v } ∷ []
edges_of flow.Return v returns = record { at = v; kind = End; to = v } ∷ []
edges_of flow.Exit v returns = record { at = v; kind = End; to = v } ∷ []
edges_of flow.MayExit v returns = record { at = v; kind = Next; to = v + 4 } ∷ record { at = v; kind = End; to = v } ∷ []
edges_of flow.Breakpoint v returns = record { at = v; kind = End; to = v } ∷ []
edges_of flow.Next v returns = record { at = v; kind = Next; to = v + 4 } ∷ []
edges_of flow.Refused v returns = []

-- nodes, edges, functions and the calls that come back, as lists
pub record Code : Type 0 where
  pub nodes : List ℕ
  pub edges : List Edge
  pub functions : List ℕ
  -- by number of the node, the number of its function; by number of the function, whether it returns
  pub owners : List ℕ
  pub returning : List Bool

abbrev pub if_true : Bool → Bool → Bool → Bool
if_true true a b = a
if_true false a b = b

-- the entry beside an address, and 0 or false at what is none
abbrev pub number_beside : List ℕ → List ℕ → ℕ → ℕ
number_beside [] table v = 0
number_beside (u ∷ us) [] v = 0
number_beside (u ∷ us) (x ∷ xs) v = cond (nat_eq u v) x (number_beside us xs v)

abbrev pub flag_beside : List ℕ → List Bool → ℕ → Bool
flag_beside [] table v = false
flag_beside (u ∷ us) [] v = false
flag_beside (u ∷ us) (x ∷ xs) v = if_true (nat_eq u v) x (flag_beside us xs v)

abbrev pub owner_of : Code → ℕ → ℕ
owner_of code v = number_beside code.nodes code.owners v

abbrev pub returns_of : Code → ℕ → Bool
returns_of code h = flag_beside code.functions code.returning h

abbrev pub place_after : EdgeKind → ℕ → Option ℕ
place_after End to = None
place_after Taken to = Some to
place_after Untaken to = Some to
place_after Jump to = Some to
place_after Next to = Some to
place_after CallNext to = Some to

abbrev pub edge_at : Option Edge → ℕ
edge_at None = 0
edge_at (Some e) = e.at

abbrev pub edge_to : Option Edge → Option ℕ
edge_to None = None
edge_to (Some e) = place_after e.kind e.to

abbrev pub number_or_0 : Option ℕ → ℕ
number_or_0 None = 0
number_or_0 (Some f) = f

-- whether the function that a word calls returns
abbrev pub call_returns : Code → Flow → Bool
call_returns code (flow.Call to) = returns_of code to
call_returns code (flow.Branch to) = false
call_returns code (flow.Jump to) = false
call_returns code flow.Return = false
call_returns code flow.Exit = false
call_returns code flow.MayExit = false
call_returns code flow.Breakpoint = false
call_returns code flow.Next = false
call_returns code flow.Refused = false

-- the function that a word calls
abbrev pub callee_of : List ℕ → Flow → Option ℕ
callee_of functions (flow.Call to) = find_below (length functions) (λ i. nat_eq (number_or_0 (slice_get functions i)) to)
callee_of functions (flow.Branch to) = None
callee_of functions (flow.Jump to) = None
callee_of functions flow.Return = None
callee_of functions flow.Exit = None
callee_of functions flow.MayExit = None
callee_of functions flow.Breakpoint = None
callee_of functions flow.Next = None
callee_of functions flow.Refused = None

abbrev pub is_return_word : Flow → Bool
is_return_word flow.Return = true
is_return_word (flow.Branch to) = false
is_return_word (flow.Jump to) = false
is_return_word (flow.Call to) = false
is_return_word flow.Exit = false
is_return_word flow.MayExit = false
is_return_word flow.Breakpoint = false
is_return_word flow.Next = false
is_return_word flow.Refused = false

-- the function that an edge's word calls
abbrev pub edge_callee : (ℕ → Flow) → List ℕ → Option Edge → Option ℕ
edge_callee word functions None = None
edge_callee word functions (Some e) = callee_of functions (word e.at)

-- an edge of a return
abbrev pub edge_returns : (ℕ → Flow) → Option Edge → Bool
edge_returns word None = false
edge_returns word (Some e) = is_return_word (word e.at)

-- an exit is the End edge of a word that ends the run or may end it
abbrev pub is_exit : Flow → EdgeKind → Bool
is_exit flow.Exit End = true
is_exit flow.MayExit End = true
is_exit w k = false

abbrev pub edge_exits : (ℕ → Flow) → Option Edge → Bool
edge_exits word None = false
edge_exits word (Some e) = is_exit (word e.at) e.kind

abbrev pub graph_of : (ℕ → Flow) → Code → Graph
graph_of word code = record {
  edges = length code.edges;
  source = λ e. edge_at (slice_get code.edges e);
  target = λ e. edge_to (slice_get code.edges e);
  callee = λ e. edge_callee word code.functions (slice_get code.edges e);
  returns = λ e. edge_returns word (slice_get code.edges e);
  exits = λ e. edge_exits word (slice_get code.edges e);
  functions = length code.functions;
  entry = λ f. number_or_0 (slice_get code.functions f);
  owner = owner_of code;
}

-- the lists are those of the reached code, and the owner of a node is the number of its function
pub record IsCodeOf (word : ℕ → Flow) (first : ℕ) (code : Code) : Type 0 where
  pub nodes : (v : ℕ) → ((i : ℕ) × (slice_get code.nodes i ≡ Some v)) ↔ ((f : ℕ) × Reached word first f v)
  pub ascending : (i j v u : ℕ) → i < j → slice_get code.nodes i ≡ Some v → slice_get code.nodes j ≡ Some u → v < u
  pub returns : (h : ℕ) → (returns_of code h ≡ true) ↔ DoesReturn word first h
  pub edges : code.edges ≡ flat_map (λ v. edges_of (word v) v (call_returns code (word v))) code.nodes
  pub functions : (f : ℕ) → ((i : ℕ) × (slice_get code.functions i ≡ Some f)) ↔ Reached word first f f
  pub first_function : slice_get code.functions 0 ≡ Some first
  pub once : (i j f : ℕ) → slice_get code.functions i ≡ Some f → slice_get code.functions j ≡ Some f → i ≡ j
  pub owner : (f v : ℕ) → Reached word first f v → slice_get code.functions (owner_of code v) ≡ Some f

-- no refused word is reached, and no node is reached in two functions
abbrev pub HasNoBadWord : (ℕ → Flow) → ℕ → Type 0
HasNoBadWord word first = (f v : ℕ) → Reached word first f v → word v ≢ flow.Refused

abbrev pub HasNoSharedCode : (ℕ → Flow) → ℕ → Type 0
HasNoSharedCode word first = (f h v : ℕ) → Reached word first f v → Reached word first h v → f ≡ h
