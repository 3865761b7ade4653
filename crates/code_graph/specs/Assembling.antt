-- Scaffold: the lists of a graph, and what they are made of.
use Rattle.std.specs.Prelude.{◌≡◌, ℕ, ◌+◌, ◌-◌, ◌<◌, ◌≤◌, ◌⊎◌, Bool, true, false, List, [], ◌∷◌, ◌++◌, length, map, take, drop, slice_get, slice_index, slice_index_or, Option, Some, None, Result, Ok, Err}
use Rattle.std.specs.List.{flat_map}
use Rattle.scale_base.specs.declared.edges.Edge.{Edge}
use Rattle.scale_base.specs.declared.edges.EdgeKind.TheVariants.{Next}
use Rattle.cost_theory.specs.declared.flow.Flow.{Flow}
use Rattle.cost_theory.specs.Reached.{edges_of, edge_at, edge_to}
use Rattle.code_graph.specs.declared.reach.marks.Mark.{Mark}
use Rattle.code_graph.specs.declared.reach.marks.Mark.TheVariants.{Unreached, Owner, Shared}
use Rattle.graph_algorithms.specs.declared.orders.Arc.{Arc}
use Rattle.graph_algorithms.specs.Arcs.{HasArc, HasNoCycle, IsSorted, IsCycle}
use Rattle.scale_base.specs.declared.ranges.Range.{Range}
use Rattle.scale_base.specs.declared.refusal.Refusal.{Refusal}
use Rattle.scale_base.specs.declared.refusal.Refusal.TheVariants.{Recursion}
use Rattle.code_graph.specs.Reach.{Reach}

-- ---- nodes and functions

-- the number of the function that begins at word k
abbrev pub number_in : List (Option ℕ) → ℕ → Option ℕ
number_in numbers k = slice_index_or numbers k None

abbrev pub number_by : List (Option ℕ) → Mark → Option ℕ
number_by numbers Unreached = None
number_by numbers (Owner first) = number_in numbers first
number_by numbers Shared = None

-- the number of the function in which alone word k is reached
abbrev pub owner_number : Reach → ℕ → Option ℕ
owner_number r k = number_by r.numbers (slice_index_or r.marks k Unreached)

-- node j is word k, one of the first n
pub record IsNodeWord (r : Reach) (n : ℕ) (nodes : List ℕ) (kinds : List Flow) (owners : List ℕ) (j a : ℕ) : Type 0 where
  pub k : ℕ
  pub below : k < n
  pub kind : Flow
  pub owner : ℕ
  pub address : slice_get r.words.addresses k ≡ Some a
  pub word : slice_get r.words.kinds k ≡ Some kind
  pub number : owner_number r k ≡ Some owner
  pub kind_beside : slice_get kinds j ≡ Some kind
  pub owner_beside : slice_get owners j ≡ Some owner

-- the nodes are those of the first n words that are reached in one function, in their order
pub record AreReachedNodes (r : Reach) (n : ℕ) (nodes : List ℕ) (kinds : List Flow) (owners : List ℕ) : Type 0 where
  pub kinds_size : length kinds ≡ length nodes
  pub owners_size : length owners ≡ length nodes
  pub few : length nodes ≤ n
  pub each : (j a : ℕ) → slice_get nodes j ≡ Some a → IsNodeWord r n nodes kinds owners j a
  pub whole : (k i a : ℕ) → k < n → owner_number r k ≡ Some i → slice_get r.words.addresses k ≡ Some a → (j : ℕ) ×
      (slice_get nodes j ≡ Some a)
  pub ascending : (i j a b : ℕ) → i < j → slice_get nodes i ≡ Some a → slice_get nodes j ≡ Some b → a < b

-- the flag of word k
abbrev pub flag_of : List Bool → ℕ → Bool
flag_of flags k = slice_index_or flags k false

-- the first addresses of the functions
abbrev pub entry_addresses : Reach → List ℕ
entry_addresses r = map (slice_index r.words.addresses) r.functions

-- ---- edges

-- the edges of an option, none or one
abbrev pub listed : Option Edge → List Edge
listed None = []
listed (Some e) = e ∷ []

-- the flag of a function that is called, if one is
abbrev pub flag_at : List Bool → Option ℕ → Bool
flag_at returning None = false
flag_at returning (Some f) = slice_index_or returning f false

-- The edges of the first n nodes, one node after another. Whatever the nodes' words are, as the kinds say, and whatever functions they call,
-- as the callees say, each node has the edges of its word, by the flag of the function that it calls.
pub record AreEdgesOf (n : ℕ) (nodes : List ℕ) (kinds : List Flow) (callees : List (Option ℕ)) (returning : List Bool) (edges : List Edge)
    : Type 0 where
  pub edges_are : (word : ℕ → Flow) → kinds ≡ map word nodes → (callee : Flow → Option ℕ) → callees ≡ map callee kinds →
      edges ≡ flat_map (λ v. edges_of (word v) v (flag_at returning (callee (word v)))) (take n nodes)

-- ---- ends

-- By edge, of the first n: the number of the node where it starts, and that of the node to which it leads, if it leads to one.
pub record AreEnds (n : ℕ) (nodes : List ℕ) (edges : List Edge) (sources : List ℕ) (targets : List (Option ℕ)) : Type 0 where
  pub sources_size : length sources ≡ n
  pub targets_size : length targets ≡ n
  pub source : (e k : ℕ) → slice_get sources e ≡ Some k → slice_get nodes k ≡ Some (edge_at (slice_get edges e))
  pub target : (e k : ℕ) → slice_get targets e ≡ Some (Some k) → (edge_to (slice_get edges e) ≡ slice_get nodes k) × (k < length nodes)
  pub end : (e : ℕ) → slice_get targets e ≡ Some None → edge_to (slice_get edges e) ≡ None

-- ---- calls

-- a node among the first n of function f calls function h
abbrev pub HasCall : ℕ → List ℕ → List (Option ℕ) → ℕ → ℕ → Type 0
HasCall n owners callees f h = (k : ℕ) × (k < n) × (slice_get owners k ≡ Some f) × (slice_get callees k ≡ Some (Some h))

-- the arcs are these calls
pub record AreCallArcs (n : ℕ) (owners : List ℕ) (callees : List (Option ℕ)) (arcs : List Arc) : Type 0 where
  pub called : (f h : ℕ) → HasArc arcs f h → HasCall n owners callees f h
  pub arc : (f h : ℕ) → HasCall n owners callees f h → HasArc arcs f h

-- the calls are among the functions
abbrev pub AreCallsWithin : ℕ → List ℕ → List (Option ℕ) → Type 0
AreCallsWithin count owners callees = (f h : ℕ) → HasCall (length owners) owners callees f h → (f < count) × (h < count)

-- a list is another one, turned so that its least number stands first
pub record IsTurned (numbers turned : List ℕ) : Type 0 where
  pub at : ℕ
  pub within : at < length numbers
  pub turned_is : turned ≡ drop at numbers ++ take at numbers
  pub least : (i : ℕ) → i < length turned → slice_index turned 0 ≤ slice_index turned i

-- an order of the functions, callees first, where no calls lead round; or functions that call each other round
abbrev pub IsOrdered : List ℕ → List ℕ → List (Option ℕ) → Result (List ℕ) Refusal → Type 0
IsOrdered entries owners callees (Ok order) = (arcs : List Arc) × AreCallArcs (length owners) owners callees arcs ×
    IsSorted (length entries) arcs order × HasNoCycle arcs
IsOrdered entries owners callees (Err refusal) =
    (arcs : List Arc) × AreCallArcs (length owners) owners callees arcs × (cycle : List ℕ) × IsCycle arcs cycle × (named : List ℕ) ×
    (refusal ≡ Recursion named) × IsTurned (map (slice_index entries) cycle) named

-- ---- blocks

-- an edge of kind Next, by its number, that is the only one of the node where it starts, by that node's number
pub record IsOnlyNext (edges : List Edge) (firsts : List ℕ) (source e : ℕ) : Type 0 where
  pub edge : Edge
  pub here : slice_get edges e ≡ Some edge
  pub kind : edge.kind ≡ Next
  pub first : slice_index firsts source ≡ e
  pub next : slice_index firsts (source + 1) ≡ e + 1

-- node k is the entry of its function
abbrev pub IsEntryNode : List ℕ → List ℕ → List ℕ → ℕ → Type 0
IsEntryNode nodes owners functions k = slice_index nodes k ≡ slice_index functions (slice_index owners k)

-- an edge leads to node k that is not the only one of its node, of kind Next
abbrev pub LeadsApart : List Edge → List ℕ → List ℕ → List (Option ℕ) → ℕ → ℕ → Type 0
LeadsApart edges firsts sources targets e k = (slice_get targets e ≡ Some (Some k)) ×
    (IsOnlyNext edges firsts (slice_index sources e) e → ⊥)

-- by node whether it begins a block: the entries of functions do, and the nodes to which one of the first n edges leads apart
pub record AreHeads (n : ℕ) (nodes owners functions : List ℕ) (edges : List Edge) (firsts sources : List ℕ) (targets : List (Option ℕ))
    (heads : List Bool) : Type 0 where
  pub size : length heads ≡ length nodes
  pub entry : (k : ℕ) → k < length nodes → IsEntryNode nodes owners functions k → slice_get heads k ≡ Some true
  pub apart : (e k : ℕ) → e < n → LeadsApart edges firsts sources targets e k → slice_get heads k ≡ Some true
  pub only : (k : ℕ) → slice_get heads k ≡ Some true → IsEntryNode nodes owners functions k ⊎
      ((e : ℕ) × (e < n) × LeadsApart edges firsts sources targets e k)

-- the numbers below n of the flags that are up, ascending
pub record AreUp (n : ℕ) (flags : List Bool) (numbers : List ℕ) : Type 0 where
  pub few : length numbers ≤ n
  pub up : (b k : ℕ) → slice_get numbers b ≡ Some k → (k < n) × (slice_get flags k ≡ Some true)
  pub whole : (k : ℕ) → k < n → slice_get flags k ≡ Some true → (b : ℕ) × (slice_get numbers b ≡ Some k)
  pub ascending : (b c j k : ℕ) → b < c → slice_get numbers b ≡ Some j → slice_get numbers c ≡ Some k → j < k

-- the addresses from the node that begins block b up to the node before the next block's first
abbrev pub stretch : List ℕ → List ℕ → ℕ → Range
stretch nodes starts b = record {
  from = slice_index nodes (slice_index starts b);
  to = slice_index nodes (slice_index_or starts (b + 1) (length nodes) - 1) + 4;
}

-- the first n of these
pub record AreStretches (n : ℕ) (nodes starts : List ℕ) (blocks : List Range) : Type 0 where
  pub size : length blocks ≡ n
  pub each : (b : ℕ) (block : Range) → slice_get blocks b ≡ Some block → block ≡ stretch nodes starts b

-- the stretches between nodes that begin blocks
pub record AreBlocksBy (nodes owners functions : List ℕ) (edges : List Edge) (firsts sources : List ℕ) (targets : List (Option ℕ))
    (blocks : List Range) : Type 0 where
  pub heads : List Bool
  pub starts : List ℕ
  pub heads_are : AreHeads (length edges) nodes owners functions edges firsts sources targets heads
  pub starts_are : AreUp (length nodes) heads starts
  pub blocks_are : AreStretches (length starts) nodes starts blocks
