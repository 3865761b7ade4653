-- Scaffold: counters by the loops that they count: `is_of w k` tells that the window's word w counts loop k. A loop may have several counters.
use Rattle.std.specs.Prelude.{◌≡◌, ℕ, ◌<◌, ◌≤◌, Bool, true, ◌&&◌, ◌==◌, nat_lt, List, slice_get, Some}
use Rattle.scale_base.specs.declared.stepping.Class.{Class}
use Rattle.scale_base.specs.Image.{Image}
use Rattle.scale_base.specs.Run.{Run, GoesOn, run_of}
use Rattle.cost_theory.specs.Graph.{Graph, Loops}
use Rattle.cost_theory.specs.Steps as steps
use Rattle.cost_theory.specs.Reached.{Code, edge_at}
use Rattle.code_text.specs.Text.{Text, text_of}
use Rattle.code_text.specs.EdgeCosts.{edge_class}
use Rattle.graph_runs.specs.RunTransitions.{after_transitions}
use Rattle.code_text.specs.TextGraph.{text_graph}
use Rattle.graph_runs.specs.KeptSteps.{Carried}
use Rattle.graph_runs.specs.KeptRuns.{IsKeptRun}
use Rattle.stub_writer.specs.Stubs.{Site}
use Rattle.stored_runs.specs.Marks.{place_at, fragments_of_class, counters_behind, shadow_first, shadow_after}
use Rattle.stored_runs.specs.Stubbed.{IsFollowed}
use Rattle.paid_runs.specs.Shadows.{AreCountable, AreShown, count_over}

-- the loops can be counted, and the limits are at least their bounds
pub record AreCounterWords (g : Graph) (l : Loops) (limits : ℕ → ℕ) (is_of : ℕ → ℕ → Bool) : Type 0 where
  pub loops : (w k : ℕ) → is_of w k ≡ true → k < l.loops
  pub countable : (w k : ℕ) → is_of w k ≡ true → AreCountable g l (λ j. j == k)
  pub limited : (w k : ℕ) → is_of w k ≡ true → l.bound k ≤ limits w

-- The fragments on each edge do to a loop's counter what the edge does to the loop's count, and change no word that is no counter of a loop.
pub record AreCounted (t : Text) (code : Code) (l : Loops) (sites : List Site) (is_of : ℕ → ℕ → Bool) : Type 0 where
  pub counts : (e : ℕ) (class : Class) → e < (text_graph t code).edges → edge_class t (slice_get code.edges e) ≡ Some class → (w k : ℕ) →
      is_of w k ≡ true → (c : ℕ → ℕ)
      → counters_behind (fragments_of_class (place_at sites (edge_at (slice_get code.edges e))) class) c w ≡ count_over (text_graph t code)
      l k e (c w)
  pub others : (e : ℕ) (class : Class) → e < (text_graph t code).edges → edge_class t (slice_get code.edges e) ≡ Some class → (w : ℕ) →
      ((k : ℕ) → is_of w k ≡ true → ⊥) → (c : ℕ → ℕ)
      → counters_behind (fragments_of_class (place_at sites (edge_at (slice_get code.edges e))) class) c w ≡ c w

-- A counter of a loop that a run is in holds the loop's count, and every other counter is 0.
pub record AreCounting (t : Text) (code : Code) (l : Loops) (is_of : ℕ → ℕ → Bool) (sites : List Site) (start : ℕ) (r : Run)
    (moves : List steps.Transition) : Type 0 where
  pub shown : (w k : ℕ) → is_of w k ≡ true → AreShown l (λ j. j == k) (after_transitions t code l moves)
      (λ j. (shadow_after sites (shadow_first start) r.steps).counters w)
  pub others : (w : ℕ) → ((k : ℕ) → is_of w k ≡ true → ⊥) → (shadow_after sites (shadow_first start) r.steps).counters w ≡ 0

-- The patched image follows the original, whose run is a list of kept moves; and as long as the run goes on the counters hold the counts.
pub record IsKeptPatched (image patched : Image) (levels : ℕ) (sites : List Site) (start : ℕ) (input : List ℕ) (code : Code) (l : Loops)
    (is_of : ℕ → ℕ → Bool) (costs : Class → ℕ) (n : ℕ) (c : Carried) : Type 0 where
  pub kept : IsKeptRun (text_of image) code l costs (run_of image levels input n) c
  pub followed : IsFollowed image patched levels sites start input n
  pub counting : (run_of image levels input n).standing ≡ GoesOn → AreCounting (text_of image) code l is_of sites start
      (run_of image levels input n) kept.moves

-- the counters where each counted loop has one word
abbrev pub by_words : Loops → (ℕ → Bool) → (ℕ → ℕ) → ℕ → ℕ → Bool
by_words l counted word w k = nat_lt k l.loops && (counted k && (word k == w))
