-- Where a program gets switches and counters.
use Rattle.std.specs.Prelude.{◌≡◌, ℕ, ◌+◌, ◌<◌, ◌≤◌, Bool, true, false, not, ◌&&◌, ◌||◌, nat_le, ◌⊎◌, List, [], ◌∷◌, ◌++◌, length, slice_index, Option}
use Rattle.cost_theory.specs.Graph.{Graph, Loops, leaves, goes_back}
use Rattle.cost_theory.specs.Accepted.{IsProgram, AreAccepted}
use Rattle.cost_theory.specs.Lists.{is_among, body_of}
use Rattle.loop_forest.specs.Tree.{LoopView}
use Rattle.scale_base.specs.declared.fragments.Mark.{Mark}
use Rattle.scale_base.specs.declared.fragments.Mark.TheVariants.{Switch, Exit, Reset, Count}

-- the loops of a tree, by the numbers of nodes
abbrev pub numbered : LoopView → Loops
numbered t = record {
  loops = length t.headers;
  header = λ k. slice_index t.headers k;
  bound = λ k. slice_index t.bounds k;
  least_trips = λ k. slice_index t.least_trips k;
  inside = λ k n. is_among n (body_of t.bodies k);
}

-- numbers below a count
abbrev pub AreBelow : ℕ → List ℕ → Type 0
AreBelow n [] = Unit {0}
AreBelow n (k ∷ ks) = (k < n) × AreBelow n ks

-- the shadow counter of the counted loop of a number
abbrev pub first_counter : ℕ
first_counter = 2

-- whether an edge leaves one of these loops
abbrev pub leaves_any : Loops → ℕ → Option ℕ → List ℕ → Bool
leaves_any l u p [] = false
leaves_any l u p (k ∷ ks) = leaves l k u p || leaves_any l u p ks

-- whether loop k holds each of these loops that an edge leaves
abbrev pub holds_left : Loops → ℕ → Option ℕ → ℕ → List ℕ → Bool
holds_left l u p k [] = true
holds_left l u p k (j ∷ js) = (not (leaves l j u p) || l.inside k (l.header j)) && holds_left l u p k js

-- whether loop k is the outermost of the counted loops that an edge leaves
abbrev pub is_outermost : Loops → ℕ → Option ℕ → ℕ → List ℕ → Bool
is_outermost l u p k counted = leaves l k u p && holds_left l u p k counted

-- a mark where the test holds
abbrev pub mark_if : Bool → Mark → List Mark
mark_if true m = m ∷ []
mark_if false m = []

-- of the counted loops from a number on, with the counters from another on
abbrev pub exits_from : Loops → ℕ → Option ℕ → List ℕ → ℕ → List ℕ → List Mark
exits_from l u p counted i [] = []
exits_from l u p counted i (k ∷ ks) = mark_if (is_outermost l u p k counted) (Exit i) ++ exits_from l u p counted (i + 1) ks

abbrev pub resets_from : Loops → ℕ → Option ℕ → List ℕ → ℕ → List ℕ → List Mark
resets_from l u p counted i [] = []
resets_from l u p counted i (k ∷ ks) = mark_if (leaves l k u p && not (is_outermost l u p k counted)) (Reset i) ++ resets_from l u p
    counted (i + 1) ks

abbrev pub counts_from : Loops → ℕ → Option ℕ → ℕ → List ℕ → List Mark
counts_from l u p i [] = []
counts_from l u p i (k ∷ ks) = mark_if (goes_back l k u p) (Count i) ++ counts_from l u p (i + 1) ks

-- a branch edge that leaves no counted loop has a switch where its slack is enough
abbrev pub switch_of : Loops → ℕ → Option ℕ → List ℕ → Bool → ℕ → ℕ → List Mark
switch_of l u p counted branch slack min_gain = mark_if (branch && (not (leaves_any l u p counted) && nat_le min_gain slack)) Switch

-- the marks of a step between two places: Exit or Switch, then Resets, then Count
abbrev pub marks_at : Loops → List ℕ → Bool → ℕ → ℕ → ℕ → Option ℕ → List Mark
marks_at l counted branch slack min_gain u p =
    switch_of l u p counted branch slack min_gain ++ (exits_from l u p counted first_counter counted
    ++ (resets_from l u p counted first_counter counted ++ counts_from l u p first_counter counted))

-- the marks of an edge
abbrev pub marks_of : Graph → Loops → List ℕ → Bool → ℕ → ℕ → ℕ → List Mark
marks_of g l counted branch slack min_gain e = marks_at l counted branch slack min_gain (g.source e) (g.target e)

-- a list of loops, each once
abbrev pub IsListedLoop : ℕ → List ℕ → Type 0
IsListedLoop k [] = ⊥
IsListedLoop k (j ∷ js) = (k ≡ j) ⊎ IsListedLoop k js

abbrev pub AreLoopsOnce : Loops → List ℕ → Type 0
AreLoopsOnce l ks = (k : ℕ) → IsListedLoop k ks → k < l.loops

abbrev pub AreDistinctLoops : List ℕ → Type 0
AreDistinctLoops [] = Unit {0}
AreDistinctLoops (k ∷ ks) = (IsListedLoop k ks → ⊥) × AreDistinctLoops ks

-- The law: on accepted loops at most one mark of an edge is a switch.
abbrev pub SwitchesOnce : Type 0
SwitchesOnce = (g : Graph) (l : Loops) (extent : ℕ → ℕ → Bool) (counted : List ℕ) → IsProgram g → AreAccepted g l extent →
    AreLoopsOnce l counted → AreDistinctLoops counted
    → (e : ℕ) (branch : Bool) (slack min_gain i : ℕ) → e < g.edges → length (switch_of l (g.source e) (g.target e) counted branch slack
    min_gain ++ exits_from l (g.source e) (g.target e) counted i counted) ≤ 1
