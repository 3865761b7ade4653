-- Scaffold: what a depth-first search keeps.
use Rattle.std.specs.Prelude.{◌≡◌, ◌≢◌, ℕ, suc, ◌+◌, ◌<◌, ◌≤◌, List, length, slice_index_or, Option, Some, None}
use Rattle.std.specs.List.{sum_by}
use Rattle.graph_algorithms.specs.declared.orders.Arc.{Arc}
use Rattle.graph_algorithms.specs.declared.orders.search.Mark.{Mark}
use Rattle.graph_algorithms.specs.declared.orders.search.Mark.TheVariants.{Unmet, OnPath, Done}
use Rattle.graph_algorithms.specs.Arcs.{HasArc, arc_at, number_in_place}

abbrev pub mark : List Mark → ℕ → Mark
mark marks x = slice_index_or marks x Unmet

abbrev pub arc_next : List (Option ℕ) → ℕ → Option ℕ
arc_next next x = slice_index_or next x None

-- arc r stands above the place of a chain
abbrev pub IsAbove : Option ℕ → ℕ → Type 0
IsAbove None r = Unit {0}
IsAbove (Some s) r = s < r

-- the last of the first n arcs from each number
pub record AreLasts (n : ℕ) (arcs : List Arc) (last : List (Option ℕ)) : Type 0 where
  pub arc : (x s : ℕ) → arc_next last x ≡ Some s → (s < n) × ((arc_at arcs s).from ≡ x)
  pub none_above : (r : ℕ) → r < n → IsAbove (arc_next last (arc_at arcs r).from) r → ⊥

-- for each of the first n arcs the last one before it from the same number
pub record AreArcChains (n : ℕ) (arcs : List Arc) (before : List (Option ℕ)) : Type 0 where
  pub arc : (s r : ℕ) → s < n → arc_next before s ≡ Some r → (r < s) × ((arc_at arcs r).from ≡ (arc_at arcs s).from)
  pub none_between : (s r : ℕ) → s < n → r < n → (arc_at arcs r).from ≡ (arc_at arcs s).from → IsAbove (arc_next before s) r → s ≤ r

abbrev pub IsDone : List Mark → ℕ → Type 0
IsDone marks x = (j : ℕ) × (mark marks x ≡ Done j)

abbrev pub IsMet : List Mark → ℕ → Type 0
IsMet marks x = mark marks x ≢ Unmet

-- what was met stays so
abbrev pub AreMet : List Mark → List Mark → Type 0
AreMet old new = (x : ℕ) → IsMet old x → IsMet new x

pub record IsSearch (arcs : List Arc) (before next : List (Option ℕ)) (marks : List Mark) (path order : List ℕ) : Type 0 where
  pub before_size : length before ≡ length arcs
  pub next_size : length next ≡ length marks
  pub chain : AreArcChains (length arcs) arcs before
  pub path_marked : (i : ℕ) → i < length path → (number_in_place path i < length marks) × (mark marks (number_in_place path i) ≡ OnPath i)
  pub marked_path : (x i : ℕ) → mark marks x ≡ OnPath i → (i < length path) × (number_in_place path i ≡ x)
  pub order_marked : (i : ℕ) → i < length order → (number_in_place order i < length marks) × (mark marks (number_in_place order i) ≡ Done i)
  pub marked_order : (x i : ℕ) → mark marks x ≡ Done i → (i < length order) × (number_in_place order i ≡ x)
  pub path_arcs : (i : ℕ) → i + 1 < length path → HasArc arcs (number_in_place path i) (number_in_place path (i + 1))
  pub done_arcs : (s i : ℕ) → s < length arcs → mark marks (arc_at arcs s).from ≡ Done i → (j : ℕ) × (j < i) ×
      (mark marks (arc_at arcs s).to ≡ Done j)
  -- the next arc from a number, and those that it is past
  pub next_arc : (x s : ℕ) → arc_next next x ≡ Some s → (s < length arcs) × ((arc_at arcs s).from ≡ x)
  pub passed : (s : ℕ) → s < length arcs → IsAbove (arc_next next (arc_at arcs s).from) s → IsDone marks (arc_at arcs s).to

-- an arc leads from the end of the path back to a place on it
abbrev pub IsBack : List Arc → List ℕ → Option ℕ → Type 0
IsBack arcs path None = Unit {0}
IsBack arcs path (Some start) = (start < length path) × ((i : ℕ) → i + 1 ≡ length path →
    HasArc arcs (number_in_place path i) (number_in_place path start))

-- what is left to do
abbrev pub place : Option ℕ → ℕ
place None = 0
place (Some s) = suc s

abbrev pub mark_height : Mark → ℕ
mark_height Unmet = 2
mark_height (OnPath i) = 1
mark_height (Done i) = 0

abbrev pub work : List (Option ℕ) → List Mark → ℕ
work next marks = sum_by place next + sum_by mark_height marks
