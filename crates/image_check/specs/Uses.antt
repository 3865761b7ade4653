-- Scaffold: what stands of each counter on the edges, by the numbers of edges; and how many edges turn and leave a loop.
use Rattle.std.specs.Prelude.{◌≡◌, ℕ, zero, suc, ◌+◌, ◌*◌, ◌<◌, ◌≤◌, ◌==◌, ◌&&◌, ◌||◌, not, nat_eq, nat_le, nat_lt, Bool, true, false, List, [], ◌∷◌, length, slice_index, slice_index_or, Option, Some, None, if◌then◌else◌}
use Rattle.std.specs.List.{sum_by}
use Rattle.cost_theory.specs.Graph.{Graph, Loops, is_back, leaves, only, sum_below}
use Rattle.flow_graph.specs.FlowGraph.{FlowGraph, graph}
use Rattle.loop_forest.specs.Noted.{node_address}
use Rattle.loop_forest.specs.Tree.{LoopView, loops}
use Rattle.foreign_scan.specs.declared.fragment.ForeignFragment.{ForeignFragment}
use Rattle.foreign_scan.specs.declared.fragment.ForeignFragment.TheVariants.{Switch, Exit, Reset, Count}
use Rattle.foreign_scan.specs.Shown.{ScannedSites}
use Rattle.image_check.specs.Safe.{counts_it, clears_it, one_where}
use Rattle.image_check.specs.Known.{owner_by}
use Rattle.image_check.specs.declared.uses.Tally.{Tally}

-- ---- edges

-- the fragments of an edge
abbrev pub on_edge : ScannedSites → ℕ → List ForeignFragment
on_edge s e = slice_index_or s.fragments e []

abbrev pub counts_at : ScannedSites → ℕ → ℕ → ℕ
counts_at s c e = sum_by (counts_it c) (on_edge s e)

abbrev pub clears_at : ScannedSites → ℕ → ℕ → ℕ
clears_at s c e = sum_by (clears_it c) (on_edge s e)

-- 1 for an edge that turns loop k back, and for one that leaves it
abbrev pub turn_of : Graph → Loops → ℕ → ℕ → ℕ
turn_of g l k e = one_where (is_back g l k e)

abbrev pub exit_of : Graph → Loops → ℕ → ℕ → ℕ
exit_of g l k e = one_where (leaves l k (g.source e) (g.target e))

-- the same of a loop that may be missing
abbrev pub of_loop : (ℕ → ℕ → ℕ) → Option ℕ → ℕ → ℕ
of_loop f None e = 0
of_loop f (Some k) e = f k e

-- Whether an edge has at most one count of a counter, where it turns the counter's loop, and at most one exit or reset, where it leaves the loop.
abbrev pub fits_on : FlowGraph → LoopView → ScannedSites → (owner : Option ℕ) → (c e : ℕ) → Bool
fits_on v t s owner c e = nat_le (counts_at s c e) (of_loop (turn_of (graph v) (loops v t)) owner e) && nat_le (clears_at s c e)
    (of_loop (exit_of (graph v) (loops v t)) owner e)

-- ---- loops

-- by loop, how many edges turn it back, and how many leave it
pub record AreTurns (v : FlowGraph) (t : LoopView) (n : ℕ) (turns : List ℕ) : Type 0 where
  pub size : length turns ≡ length t.headers
  pub each : (k : ℕ) → k < length t.headers → slice_index turns k ≡ sum_below n (turn_of (graph v) (loops v t) k)

pub record AreExits (v : FlowGraph) (t : LoopView) (n : ℕ) (exits : List ℕ) : Type 0 where
  pub size : length exits ≡ n
  pub each : (k : ℕ) → k < n → slice_index exits k ≡ sum_below (length v.code.edges) (exit_of (graph v) (loops v t) k)

-- the edges of node number n that leave loop k
abbrev pub exit_from : FlowGraph → LoopView → (k n e : ℕ) → ℕ
exit_from v t k n e = only (nat_eq ((graph v).source e) (node_address v n)) (exit_of (graph v) (loops v t) k e)

abbrev pub exits_at : FlowGraph → LoopView → (k n : ℕ) → ℕ
exits_at v t k n = sum_below (length v.code.edges) (exit_from v t k n)

-- ---- the loop that is counted

-- the loop k, where the fragments count the counter
abbrev pub named_by : (k c : ℕ) → ForeignFragment → Option ℕ → Option ℕ
named_by k c f o = if nat_lt 0 (counts_it c f) then Some k else o

abbrev pub named : (k c : ℕ) → List ForeignFragment → Option ℕ → Option ℕ
named k c [] o = o
named k c (f ∷ fs) o = named k c fs (named_by k c f o)

-- by counter, a loop of which one of the first n edges is a back edge and counts it
pub record AreNamed (v : FlowGraph) (t : LoopView) (s : ScannedSites) (n : ℕ) (owners : List (Option ℕ)) : Type 0 where
  pub size : length owners ≡ 511
  pub some : (c k : ℕ) → owner_by owners c ≡ Some k → (k < length t.headers) ×
      ((e : ℕ) × (e < n) × (turn_of (graph v) (loops v t) k e ≡ 1) × (0 < counts_at s c e))
  pub none : (c k e : ℕ) → owner_by owners c ≡ None → k < length t.headers → e < n → turn_of (graph v) (loops v t) k e ≡ 1 →
      counts_at s c e ≡ 0

-- ---- tallies

abbrev pub counter_used : ForeignFragment → Option ℕ
counter_used (Switch word) = None
counter_used (Exit counter shift table) = Some counter
counter_used (Reset counter) = Some counter
counter_used (Count counter) = Some counter

abbrev pub is_same_counter : Option ℕ → ℕ → Bool
is_same_counter None c = false
is_same_counter (Some d) c = c == d

abbrev pub no_tally : Tally
no_tally = record { counts = 0; clears = 0; fits = true }

-- the tally of a counter behind one more fragment, and behind some of them; `fits` tells whether their edge fits the counter
abbrev pub taken_one : ℕ → Bool → ForeignFragment → Tally → Tally
taken_one c fits f u =
    record {
      counts = u.counts + counts_it c f;
      clears = u.clears + clears_it c f;
      fits = u.fits
          && (not (is_same_counter (counter_used f) c) || fits);
    }

abbrev pub taken : ℕ → Bool → List ForeignFragment → Tally → Tally
taken c fits [] u = u
taken c fits (f ∷ fs) u = taken c fits fs (taken_one c fits f u)

-- the tally of a counter after the first n edges
abbrev pub tally_of : FlowGraph → LoopView → ScannedSites → (owner : Option ℕ) → (c n : ℕ) → Tally
tally_of v t s owner c zero = no_tally
tally_of v t s owner c (suc n) = taken c (fits_on v t s owner c n) (on_edge s n) (tally_of v t s owner c n)

abbrev pub AreTallies : FlowGraph → LoopView → ScannedSites → List (Option ℕ) → ℕ → List Tally → Type 0
AreTallies v t s owners n tallies = (length tallies ≡ 511) × ((c : ℕ) → slice_index_or tallies c no_tally ≡ tally_of v t s
    (owner_by owners c) c n)

-- one more fragment is taken
abbrev pub AreTakenOne : FlowGraph → LoopView → ScannedSites → List (Option ℕ) → (e : ℕ) → ForeignFragment → (old new : List Tally) → Type 0
AreTakenOne v t s owners e f old new = (c : ℕ) → slice_index_or new c no_tally ≡ taken_one c (fits_on v t s (owner_by owners c) c e) f
    (slice_index_or old c no_tally)

-- one more edge is taken
abbrev pub AreTallied : FlowGraph → LoopView → ScannedSites → List (Option ℕ) → (e : ℕ) → (old new : List Tally) → Type 0
AreTallied v t s owners e old new = (length new ≡ 511) × ((c : ℕ) → slice_index_or new c no_tally ≡ taken c
    (fits_on v t s (owner_by owners c) c e) (on_edge s e) (slice_index_or old c no_tally))

-- tallies of some edges, each of which has at most 64 fragments
abbrev pub AreSmallTallies : ℕ → List Tally → Type 0
AreSmallTallies n tallies = (c : ℕ) → ((slice_index_or tallies c no_tally).counts ≤ 64 * n) ×
    ((slice_index_or tallies c no_tally).clears ≤ 64 * n)

-- ---- whether a counter counts its loop

abbrev pub is_tally_of : List ℕ → List ℕ → Tally → Option ℕ → Bool
is_tally_of turns exits u None = false
is_tally_of turns exits u (Some k) = u.fits && (u.counts == slice_index turns k) && (u.clears == slice_index exits k)

-- a counter is used, and counts no loop
abbrev pub is_bad_tally : List ℕ → List ℕ → Tally → Option ℕ → Bool
is_bad_tally turns exits u owner = nat_lt 0 (u.counts + u.clears) && not (is_tally_of turns exits u owner)

-- the first counter of which that is so, if there is one
abbrev pub IsFirstBad : (turns exits : List ℕ) → List Tally → List (Option ℕ) → Option ℕ → Type 0
IsFirstBad turns exits tallies owners None = (c : ℕ) → c < 511 → is_bad_tally turns exits (slice_index_or tallies c no_tally)
    (owner_by owners c) ≡ false
IsFirstBad turns exits tallies owners (Some b) =
    (b < 511) × (is_bad_tally turns exits (slice_index_or tallies b no_tally) (owner_by owners b) ≡ true)
    × ((c : ℕ) → c < b → is_bad_tally turns exits (slice_index_or tallies c no_tally) (owner_by owners c) ≡ false)
