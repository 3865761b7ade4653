-- Scaffold: what the search of a body keeps.
use Rattle.std.specs.Prelude.{◌≡◌, ℕ, ◌+◌, ◌<◌, ◌≤◌, Bool, true, false, List, [], ◌∷◌, length, slice_get, slice_index_or, Option, Some, None, if◌then◌else◌}
use Rattle.graph_algorithms.specs.Bodies.{HasEdge, IsIn}

abbrev pub is_marked_at : List Bool → ℕ → Bool
is_marked_at found v = slice_index_or found v false

abbrev pub AreUnmarked : List Bool → Type 0
AreUnmarked found = (v : ℕ) → is_marked_at found v ≡ false

abbrev pub count_marked : List Bool → ℕ
count_marked [] = 0
count_marked (b ∷ bs) = (if b then 1 else 0) + count_marked bs

-- the nodes of a body are those that are marked, each once
pub record IsMarkedBody (found : List Bool) (body : List ℕ) : Type 0 where
  pub listed : (v : ℕ) → is_marked_at found v ≡ true → IsIn body v
  pub flagged : (p v : ℕ) → slice_get body p ≡ Some v → is_marked_at found v ≡ true
  pub once : (i j v : ℕ) → slice_get body i ≡ Some v → slice_get body j ≡ Some v → i ≡ j
  pub counted : count_marked found ≡ length body

-- later there are more marks, and more nodes behind those that were there
pub record BodyGrows (found : List Bool) (body : List ℕ) (found_then : List Bool) (body_then : List ℕ) : Type 0 where
  pub kept : (v : ℕ) → is_marked_at found v ≡ true → is_marked_at found_then v ≡ true
  pub longer : length body ≤ length body_then
  pub front : (p : ℕ) → p < length body → slice_get body_then p ≡ slice_get body p

-- each node of the extent from which an edge leads to this one is marked
abbrev pub IsSettled : List ℕ → List (Option ℕ) → (ℕ → Bool) → List Bool → ℕ → Type 0
IsSettled sources targets extent found u = (v : ℕ) → HasEdge sources targets v u → extent v ≡ true → is_marked_at found v ≡ true

-- the least unmarked node from which an edge leads to node u, if there is one
abbrev pub IsLeastUnmarked : List ℕ → List (Option ℕ) → List Bool → ℕ → Option ℕ → Type 0
IsLeastUnmarked sources targets found u None = (v : ℕ) → HasEdge sources targets v u → is_marked_at found v ≡ true
IsLeastUnmarked sources targets found u (Some w) = HasEdge sources targets w u × (is_marked_at found w ≡ false) ×
    ((v : ℕ) → HasEdge sources targets v u → is_marked_at found v ≡ false → w ≤ v)
