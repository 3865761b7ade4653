-- Loops that turn at least so often, and the least cost of walks along which they do.
-- A lower bound of a loop is a flow fact, as its upper bound is (Li and Malik, DAC 1995).
use Rattle.std.specs.Prelude.{◌≡◌, ℕ, ◌+◌, ◌*◌, ◌<◌, ◌≤◌, Bool, true, false, not, ◌&&◌, ◌⊎◌, List, [], ◌∷◌, Option, Some}
use Rattle.cost_theory.specs.Graph.{Graph, Loops, total, sum_below, only, is_round, is_header, enters, leaves, is_back, count_step}
use Rattle.cost_theory.specs.Least.{IsLeastIfAny}

-- A run steps over edges of one kind. It ends after an edge of another, or anywhere where that is allowed.
abbrev pub IsRun : Graph → Bool → (ℕ → Bool) → (ℕ → Bool) → Option ℕ → List ℕ → Type 0
IsRun g anywhere last step p [] = anywhere ≡ true
IsRun g anywhere last step p (e ∷ es) = (e < g.edges) × (p ≡ Some (g.source e)) ×
    (((last e ≡ true) × (es ≡ [])) ⊎ ((step e ≡ true) × IsRun g anywhere last step (g.target e) es))

-- within an iteration of loop k: an edge that stays in the body and does not come to the header
abbrev pub turn_step : Graph → Loops → ℕ → ℕ → Bool
turn_step g l k e = l.inside k (g.source e) && (is_round l k (g.target e) && not (is_header l k (g.target e)))

-- the end of an iteration: an edge from the body to the header
abbrev pub turn_last : Graph → Loops → ℕ → ℕ → Bool
turn_last g l k e = is_back g l k e

-- a loop is left only after at least so many turns
abbrev pub KeepsLeast : Graph → Loops → (ℕ → ℕ) → (ℕ → ℕ) → List ℕ → Type 0
KeepsLeast g l m counts [] = Unit {0}
KeepsLeast g l m counts (e ∷ es) =
    ((k : ℕ) → k < l.loops → leaves l k (g.source e) (g.target e) ≡ true → m k ≤ counts k) ×
    KeepsLeast g l m (count_step l (Some (g.source e)) (g.target e) counts) es

-- what an edge is charged with: the least turns of the loops that it enters from outside, at a cost of each turn
abbrev pub least_charge : Graph → Loops → (ℕ → ℕ) → (ℕ → ℕ) → ℕ → ℕ
least_charge g l m turn e = sum_below l.loops (λ k. only (enters l k (g.source e) (g.target e)) (m k * turn k))

-- a kind of walks, with the least charged cost of such a walk from each node
pub record IsKind (g : Graph) (l : Loops) (c m turn : ℕ → ℕ) (last step : ℕ → Bool) (t : ℕ → Option ℕ) : Type 0 where
  pub least : (v : ℕ) → IsLeastIfAny (IsRun g false last step (Some v)) (total (λ e. c e + least_charge g l m turn e)) (t v)
  -- the last edge of such a walk is charged with nothing
  pub free : (e : ℕ) → e < g.edges → last e ≡ true → least_charge g l m turn e ≡ 0
  -- such a walk does not end within a loop that it enters and that has to turn
  pub outside : (e j d : ℕ) → e < g.edges → step e ≡ true → j < l.loops → 0 < m j → enters l j (g.source e) (g.target e) ≡ true →
      d < g.edges → last d ≡ true → l.inside j (g.source d) ≡ true → leaves l j (g.source d) (g.target d) ≡ true
