-- Scaffold: loops by their bodies: the innermost one round a node, and the next one round a loop.
-- Nested loops: Aho, Lam, Sethi and Ullman, Compilers, 9.6.
use Rattle.std.specs.Prelude.{◌≡◌, ◌≢◌, ℕ, ◌<◌, ◌≤◌, List, [], map, length, slice_index_or, Option, Some, None, Vec}
use Rattle.std.specs.List.{Contains}
use Rattle.std.specs.declared.alloc.Global.{Global}

abbrev pub bodies_of : List (Vec ℕ Global) → List (List ℕ)
bodies_of bodies = map (λ body. body.items) bodies

-- the nodes of loop l
abbrev pub body_at : List (List ℕ) → ℕ → List ℕ
body_at bodies l = slice_index_or bodies l []

abbrev pub header_in_list : List ℕ → ℕ → ℕ
header_in_list headers l = slice_index_or headers l 0

abbrev pub found_at : List (Option ℕ) → ℕ → Option ℕ
found_at options k = slice_index_or options k None

-- loop l has node v
abbrev pub HasNode : List (List ℕ) → ℕ → ℕ → Type 0
HasNode bodies l v = (l < length bodies) × Contains (body_at bodies l) v

-- loop k is round loop l: its body is longer, and has all nodes of the other
abbrev pub IsRound : List (List ℕ) → ℕ → ℕ → Type 0
IsRound bodies k l = (length (body_at bodies l) < length (body_at bodies k)) × ((v : ℕ) → HasNode bodies l v → HasNode bodies k v)

-- of two loops with a common node, the one that is not shorter is round the other: no two of them have bodies of one length
abbrev pub AreNested : List (List ℕ) → Type 0
AreNested bodies = (l k v : ℕ) → l ≢ k → HasNode bodies l v → HasNode bodies k v → length (body_at bodies l) ≤ length (body_at bodies k) →
    IsRound bodies k l

-- loops over the nodes below the count, each with its header
pub record AreLoops (bodies : List (List ℕ)) (headers : List ℕ) (count : ℕ) : Type 0 where
  pub sized : length headers ≡ length bodies
  pub within : (l v : ℕ) → HasNode bodies l v → v < count
  pub headed : (l : ℕ) → l < length bodies → HasNode bodies l (header_in_list headers l)
  pub nested : AreNested bodies

-- of the loops of a kind the one with the shortest body, or none where there is no loop of the kind
abbrev pub IsShortestBody : List (List ℕ) → (ℕ → Type 0) → Option ℕ → Type 0
IsShortestBody bodies Is None = (k : ℕ) → k < length bodies → Is k → ⊥
IsShortestBody bodies Is (Some l) = (l < length bodies) × Is l × ((k : ℕ) → k < length bodies → k ≢ l → Is k →
    length (body_at bodies l) < length (body_at bodies k))

-- the least of the loops that have node v
abbrev pub IsInnermostBody : List (List ℕ) → ℕ → Option ℕ → Type 0
IsInnermostBody bodies v = IsShortestBody bodies (λ k. HasNode bodies k v)

-- the least of the loops round loop l
abbrev pub IsParentBody : List (List ℕ) → ℕ → Option ℕ → Type 0
IsParentBody bodies l = IsShortestBody bodies (λ k. IsRound bodies k l)

-- the least of the other loops that have the header of loop l
abbrev pub IsNextAtHeader : List (List ℕ) → List ℕ → ℕ → Option ℕ → Type 0
IsNextAtHeader bodies headers l = IsShortestBody bodies (λ k. (k ≢ l) × HasNode bodies k (header_in_list headers l))

-- the other loops that have a loop's header are longer
abbrev pub AreHeadersOuter : List (List ℕ) → List ℕ → Type 0
AreHeadersOuter bodies headers = (l k : ℕ) → l < length bodies → k ≢ l → HasNode bodies k (header_in_list headers l) →
    length (body_at bodies l) < length (body_at bodies k)

-- by node and by loop
pub record NestingView : Type 0 where
  pub innermost : List (Option ℕ)
  pub parent : List (Option ℕ)

pub record IsNesting (bodies : List (List ℕ)) (headers : List ℕ) (count : ℕ) (nesting : NestingView) : Type 0 where
  pub nodes : length nesting.innermost ≡ count
  pub loops : length nesting.parent ≡ length bodies
  pub innermost : (v : ℕ) → v < count → IsInnermostBody bodies v (found_at nesting.innermost v)
  pub parent : (l : ℕ) → l < length bodies → IsParentBody bodies l (found_at nesting.parent l)
  pub at_header : AreHeadersOuter bodies headers → (l : ℕ) → l < length bodies → IsNextAtHeader bodies headers l (found_at nesting.parent l)
