-- Scaffold: how often loops turn at least, by the numbers of nodes.
use Rattle.std.specs.Prelude.{◌≡◌, ℕ, ◌<◌, true, List, length, slice_get, slice_index, Some}
use Rattle.cost_theory.specs.Lists.{body_of, is_among}
use Rattle.flow_graph.specs.FlowGraph.{FlowGraph}
use Rattle.loop_file.specs.declared.notes.LoopNote.{LoopNote}
use Rattle.loop_file.specs.Kept.{in_extent, note_at}

-- the node of each number that is in the extent of a note is in a body
abbrev pub IsWholeBody : FlowGraph → LoopNote → List ℕ → Type 0
IsWholeBody v note body = (i at : ℕ) → slice_get v.code.nodes i ≡ Some at → in_extent note at ≡ true → is_among i body ≡ true

-- how many back edges the loop takes at least, with the body
pub record AreTripsOf (v : FlowGraph) (note : LoopNote) (body : List ℕ) (trips : ℕ) : Type 0 where
  pub whole : IsWholeBody v note body → trips ≡ note.at_least
  pub more : (IsWholeBody v note body → ⊥) → trips ≡ 0
  pub turns : 0 < trips → IsWholeBody v note body

-- by loop, for the first n
pub record AreTrips (v : FlowGraph) (notes : List LoopNote) (bodies : List (List ℕ)) (n : ℕ) (trips : List ℕ) : Type 0 where
  pub size : length trips ≡ n
  pub each : (k : ℕ) → k < n → AreTripsOf v (note_at notes k) (body_of bodies k) (slice_index trips k)
