-- Scaffold: the bodies of at most 64 loops at once: by node a word, of which bit i speaks of loop i (Aho, Lam, Sethi and Ullman, Compilers, section 9.2,
-- on sets of data-flow values as vectors of bits).
use Rattle.std.specs.Prelude.{◌≡◌, ◌≢◌, ℕ, zero, suc, ◌<◌, ◌≤◌, ◌↔◌, ◌⊎◌, Bool, true, false, List, length, slice_get, slice_index, Some}
use Rattle.std.specs.Int.{bit_at}
use Rattle.graph_algorithms.specs.declared.bodies.extent.LoopExtent.{LoopExtent}
use Rattle.graph_algorithms.specs.declared.bodies.extent.NodeRange.{NodeRange}
use Rattle.graph_algorithms.specs.Edges.{EdgeView}
use Rattle.graph_algorithms.specs.Bodies.{HasEdge, LeadsWithin, in_node_ranges}
use Rattle.graph_algorithms.specs.BodySearch.{is_marked_at}

-- bit i of a word is set
abbrev pub HasBit : ℕ → ℕ → Type 0
HasBit word i = bit_at word i ≡ 1

-- bit i of the word of node v is set
abbrev pub IsFlagged : List ℕ → ℕ → ℕ → Type 0
IsFlagged words v i = HasBit (slice_index words v) i

-- loop i is there, and something is so of it
abbrev pub OfLoop : List LoopExtent → ℕ → (LoopExtent → Type 0) → Type 0
OfLoop loops i P = (loop : LoopExtent) × (slice_get loops i ≡ Some loop) × P loop

-- node v lies in the extent of a loop
abbrev pub IsInside : ℕ → LoopExtent → Type 0
IsInside v loop = in_node_ranges loop.ranges.items v ≡ true

-- node v leads to the header of a loop within the loop's extent
abbrev pub IsLed : EdgeView → ℕ → LoopExtent → Type 0
IsLed edges v loop = LeadsWithin edges.sources edges.targets (in_node_ranges loop.ranges.items) loop.header v

-- an edge leads from outside the body of a loop to a node of it that isn't the header
pub record IsEnteredAside (edges : EdgeView) (loop : LoopExtent) : Type 0 where
  pub from : ℕ
  pub to : ℕ
  pub edge : HasEdge edges.sources edges.targets from to
  pub into : IsLed edges to loop
  pub aside : to ≢ loop.header
  pub outside : IsLed edges from loop → ⊥

-- by node the bodies that have it, and the bodies that are entered aside, as bits
pub record AreGroup (edges : EdgeView) (loops : List LoopExtent) (bodies : List ℕ) (aside : ℕ) : Type 0 where
  pub size : length bodies ≡ edges.count
  pub nodes : (v i : ℕ) → IsFlagged bodies v i ↔ OfLoop loops i (IsLed edges v)
  pub entered : (i : ℕ) → HasBit aside i ↔ OfLoop loops i (IsEnteredAside edges)

-- each loop's header is a node in its extent
pub record AreLoopExtents (count : ℕ) (loops : List LoopExtent) : Type 0 where
  pub few : length loops ≤ 64
  pub header : (i : ℕ) (loop : LoopExtent) → slice_get loops i ≡ Some loop → (loop.header < count) × IsInside loop.header loop

-- a node lies in a range
abbrev pub IsInSpan : NodeRange → ℕ → Type 0
IsInSpan range v = (range.from ≤ v) × (v < range.to)

-- a range of nodes below the count has those in the extents of some loops
pub record IsSpan (count : ℕ) (loops : List LoopExtent) (range : NodeRange) : Type 0 where
  pub within : range.to ≤ count
  pub nodes : (i v : ℕ) (loop : LoopExtent) → slice_get loops i ≡ Some loop → v < count → IsInside v loop → IsInSpan range v

-- ---- what the search keeps

-- whether the node before this one lies in some ranges
abbrev pub before_in : List NodeRange → ℕ → Bool
before_in ranges zero = false
before_in ranges (suc v) = in_node_ranges ranges v

-- some ranges begin or end at a node
abbrev pub IsChange : List NodeRange → ℕ → Type 0
IsChange ranges v = in_node_ranges ranges v ≢ before_in ranges v

abbrev pub IsChangeOf : ℕ → LoopExtent → Type 0
IsChangeOf v loop = IsChange loop.ranges.items v

-- by node the extents that have it
pub record AreInside (loops : List LoopExtent) (count : ℕ) (inside : List ℕ) : Type 0 where
  pub size : length inside ≡ count
  pub nodes : (v i : ℕ) → v < count → IsFlagged inside v i ↔ OfLoop loops i (IsInside v)

-- Words of nodes grew by bits of which P is so, and each node of which the word grew is pending.
pub record Gains (P : ℕ → ℕ → Type 0) (found : List ℕ) (pending : List Bool) (found_then : List ℕ) (pending_then : List Bool) : Type 0 where
  pub found_size : length found_then ≡ length found
  pub pending_size : length pending_then ≡ length pending
  pub kept : (v i : ℕ) → IsFlagged found v i → IsFlagged found_then v i
  pub only : (v i : ℕ) → IsFlagged found_then v i → IsFlagged found v i ⊎ P v i
  pub quiet : (v : ℕ) → is_marked_at pending_then v ≡ false → (slice_index found_then v ≡ slice_index found v) ×
      (is_marked_at pending v ≡ false)

-- one of some bits, at a node in the extent of its loop
abbrev pub IsPassedOn : List ℕ → ℕ → ℕ → ℕ → Type 0
IsPassedOn inside bits v i = HasBit bits i × IsFlagged inside v i

-- the same where an edge leads from the node to node u
abbrev pub IsPassedBack : EdgeView → List ℕ → ℕ → ℕ → ℕ → ℕ → Type 0
IsPassedBack edges inside bits u v i = HasEdge edges.sources edges.targets v u × IsPassedOn inside bits v i

-- Bits of some words, and those that are passed back from them over edges, each from node to node in the extent of its loop.
pub data ReachesBack (edges : EdgeView) (inside start : List ℕ) : ℕ → ℕ → Type 0 where
  here : {v i : ℕ} → IsFlagged start v i → ReachesBack edges inside start v i
  back : {v i : ℕ} (u : ℕ) → HasEdge edges.sources edges.targets v u → IsFlagged inside v i → ReachesBack edges inside start u i →
      ReachesBack edges inside start v i

-- what isn't pending is passed back
pub record AreBitsSettled (edges : EdgeView) (inside found : List ℕ) (pending : List Bool) : Type 0 where
  pub found_size : length found ≡ edges.count
  pub pending_size : length pending ≡ edges.count
  pub settled : (u : ℕ) → is_marked_at pending u ≡ false → (v i : ℕ) → IsPassedBack edges inside (slice_index found u) u v i →
      IsFlagged found v i

-- a search gained bits that are reached from those of some words
pub record IsSearched (edges : EdgeView) (inside start found : List ℕ) (pending : List Bool) : Type 0 where
  pub kept : (v i : ℕ) → IsFlagged start v i → IsFlagged found v i
  pub only : (v i : ℕ) → IsFlagged found v i → ReachesBack edges inside start v i
  pub settled : AreBitsSettled edges inside found pending

-- an edge leads from node v, which is marked as in the extent of loop i, to the loop's header
abbrev pub IsTurn : EdgeView → List ℕ → ℕ → ℕ → LoopExtent → Type 0
IsTurn edges inside v i loop = HasEdge edges.sources edges.targets v loop.header × IsFlagged inside v i

-- by node the bodies that have it
pub record AreBodyBits (edges : EdgeView) (loops : List LoopExtent) (bodies : List ℕ) : Type 0 where
  pub size : length bodies ≡ edges.count
  pub nodes : (v i : ℕ) → IsFlagged bodies v i ↔ OfLoop loops i (IsLed edges v)

-- an edge leads to a node from one without bit i
abbrev pub IsEnteredFrom : EdgeView → List ℕ → ℕ → ℕ → Type 0
IsEnteredFrom edges bodies to i = (from : ℕ) × HasEdge edges.sources edges.targets from to × (IsFlagged bodies from i → ⊥)

-- an edge leads from a node without bit i to one that has it, and isn't the header of loop i
pub record IsSideBit (edges : EdgeView) (bodies headers : List ℕ) (i : ℕ) : Type 0 where
  pub from : ℕ
  pub to : ℕ
  pub edge : HasEdge edges.sources edges.targets from to
  pub into : IsFlagged bodies to i
  pub aside : IsFlagged headers to i → ⊥
  pub outside : IsFlagged bodies from i → ⊥
