-- Marked edges of a graph: what their fragments do to the counters of loops, and what they cost. Each counted loop has a word of the window.
use Rattle.std.specs.Prelude.{◌≡◌, ℕ, ◌+◌, ◌*◌, ◌<◌, ◌≤◌, Bool, true, List, slice_get, Option, Some, None}
use Rattle.std.specs.List.{sum_by}
use Rattle.scale_base.specs.declared.stepping.Class.{Class}
use Rattle.scale_base.specs.declared.stepping.Class.TheVariants as classes
use Rattle.scale_base.specs.Image.{Image}
use Rattle.scale_base.specs.Run.{Run, GoesOn, run_of}
use Rattle.cost_theory.specs.Graph.{Loops}
use Rattle.cost_theory.specs.Steps as steps
use Rattle.cost_theory.specs.Reached.{Code, edge_at}
use Rattle.code_text.specs.Text.{Text, text_of}
use Rattle.code_text.specs.EdgeCosts.{edge_class, weights}
use Rattle.graph_runs.specs.RunTransitions.{after_transitions}
use Rattle.code_text.specs.TextGraph.{text_graph}
use Rattle.graph_runs.specs.KeptSteps.{Carried}
use Rattle.graph_runs.specs.KeptRuns.{IsKeptRun}
use Rattle.stub_writer.specs.Stubs.{Site}
use Rattle.stored_runs.specs.Cycles.{fragment_cost}
use Rattle.stored_runs.specs.Marks.{place_at, fragments_of_class, jumps_by, counters_behind, shadow_first, shadow_after}
use Rattle.stored_runs.specs.Stubbed.{IsFollowed}
use Rattle.paid_runs.specs.Shadows.{AreShown, count_over}

-- ---- weights

-- what an edge of a class at an address takes more in the stored image
abbrev pub extra_by : (Class → ℕ) → List Site → ℕ → Option Class → ℕ
extra_by costs sites at None = 0
extra_by costs sites at (Some class) = jumps_by (place_at sites at) * costs classes.Jump + sum_by (fragment_cost costs)
    (fragments_of_class (place_at sites at) class)

abbrev pub extra_site_weights : Text → Code → (Class → ℕ) → List Site → ℕ → ℕ
extra_site_weights t code costs sites e = extra_by costs sites (edge_at (slice_get code.edges e)) (edge_class t (slice_get code.edges e))

-- the stored weights: the original ones and what the stubs add
abbrev pub stored_site_weights : Text → Code → (Class → ℕ) → List Site → ℕ → ℕ
stored_site_weights t code costs sites e = weights t code costs e + extra_site_weights t code costs sites e

-- ---- counters

-- The fragments on each edge do to the counters what the edge does to the loops' counts: of each counted loop its word counts a back edge and is 0
-- behind an edge that leaves the loop, and no other word changes.
pub record AreMarked (t : Text) (code : Code) (l : Loops) (sites : List Site) (counted : ℕ → Bool) (word : ℕ → ℕ) : Type 0 where
  pub loops : (e : ℕ) (class : Class) → e < (text_graph t code).edges → edge_class t (slice_get code.edges e) ≡ Some class → (k : ℕ) →
      k < l.loops → counted k ≡ true → (c : ℕ → ℕ)
      → counters_behind (fragments_of_class (place_at sites (edge_at (slice_get code.edges e))) class) c (word k) ≡ count_over
      (text_graph t code) l k e (c (word k))
  pub others : (e : ℕ) (class : Class) → e < (text_graph t code).edges → edge_class t (slice_get code.edges e) ≡ Some class → (w : ℕ) →
      ((k : ℕ) → k < l.loops → counted k ≡ true → word k ≡ w → ⊥) → (c : ℕ → ℕ)
      → counters_behind (fragments_of_class (place_at sites (edge_at (slice_get code.edges e))) class) c w ≡ c w

-- the counters' limits are at least the bounds of their loops
abbrev pub AreLimits : Loops → (ℕ → Bool) → (ℕ → ℕ) → (ℕ → ℕ) → Type 0
AreLimits l counted word limits = (k : ℕ) → k < l.loops → counted k ≡ true → l.bound k ≤ limits (word k)

-- ---- kept runs

-- The counter of each counted loop that a run is in holds the loop's count, and every other counter of a loop is 0.
pub record AreHeld (t : Text) (code : Code) (l : Loops) (counted : ℕ → Bool) (word : ℕ → ℕ) (sites : List Site) (start : ℕ) (r : Run)
    (moves : List steps.Transition) : Type 0 where
  pub shown : AreShown l counted (after_transitions t code l moves) (λ k. (shadow_after sites (shadow_first start) r.steps).counters
      (word k))
  -- a word that is no loop's is 0
  pub others : (w : ℕ) → ((k : ℕ) → k < l.loops → counted k ≡ true → word k ≡ w → ⊥) →
      (shadow_after sites (shadow_first start) r.steps).counters w ≡ 0

-- The stored image follows the original, whose run is a list of kept moves; and as long as the run goes on the counters hold the counts.
pub record IsKeptFollowed (image stored : Image) (levels : ℕ) (sites : List Site) (start : ℕ) (input : List ℕ) (code : Code) (l : Loops)
    (counted : ℕ → Bool) (word : ℕ → ℕ) (costs : Class → ℕ) (n : ℕ) (c : Carried) : Type 0 where
  pub kept : IsKeptRun (text_of image) code l costs (run_of image levels input n) c
  pub followed : IsFollowed image stored levels sites start input n
  pub held : (run_of image levels input n).standing ≡ GoesOn → AreHeld (text_of image) code l counted word sites start
      (run_of image levels input n) kept.moves
