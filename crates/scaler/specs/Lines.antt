-- Scaffold: the lines of the fragments of a marked program.
use Rattle.std.specs.Prelude.{◌≡◌, ℕ, ◌-◌, ◌<◌, ◌≤◌, List, ◌++◌, map, length, slice_get, Some}
use Rattle.scale_base.specs.declared.edges.Edge.{Edge}
use Rattle.scale_base.specs.declared.fragments.Fragment.{Fragment}
use Rattle.scale_base.specs.declared.fragments.Fragment.TheVariants as fragments
use Rattle.scale_base.specs.declared.plan.SiteLine.{SiteLine}
use Rattle.power_model.specs.Numbers.{PowerModel}
use Rattle.flow_graph.specs.FlowGraph.{FlowGraph}
use Rattle.loop_forest.specs.Tree.{LoopView}
use Rattle.scale_sites.specs.Counters.{counted_loops}
use Rattle.scale_sites.specs.Marks.{first_counter}
use Rattle.rewritten_runs.specs.Stubs.{fragments_with, loop_of}
use Rattle.marked_images.specs.declared.stubs.Marking.{Marking}
use Rattle.marked_images.specs.Markings.{Whichever, test_of}
use Rattle.marked_images.specs.Wanted.{marked_where}
use Rattle.scaler.specs.Planned.{line_of, lines_from}

-- the counter of a fragment is one of a counted loop, which has a number of a loop file
abbrev pub IsLoopCounter : List ℕ → ℕ → Type 0
IsLoopCounter counted counter = (first_counter ≤ counter) × (counter - first_counter < length counted) × (loop_of counted counter < 4096)

abbrev pub IsOfLoop : List ℕ → Fragment → Type 0
IsOfLoop counted (fragments.Switch word) = Unit {0}
IsOfLoop counted (fragments.Exit counter shift rows) = IsLoopCounter counted counter
IsOfLoop counted (fragments.Reset counter) = IsLoopCounter counted counter
IsOfLoop counted (fragments.Count counter) = IsLoopCounter counted counter
IsOfLoop counted (fragments.Lowest down) = Unit {0}
IsOfLoop counted (fragments.Tally counter shift from) = IsLoopCounter counted counter

-- the lines of an edge's fragments behind some lines
abbrev pub ArePushedAt : PowerModel → FlowGraph → LoopView → Marking → ℕ → List SiteLine → List SiteLine → Type 0
ArePushedAt power v t m e old new = Whichever power v t m (λ image wanted stored least. (edge : Edge) → slice_get v.code.edges e ≡ Some edge
    → new ≡ old ++ map (line_of (counted_loops t) edge) (fragments_with power (test_of power m) image v t (marked_where v t wanted) stored
    least e))

abbrev pub AreLinesOf : PowerModel → FlowGraph → LoopView → Marking → List SiteLine → Type 0
AreLinesOf power v t m lines = Whichever power v t m (λ image wanted stored least. lines ≡ lines_from (counted_loops t)
    (fragments_with power (test_of power m) image v t (marked_where v t wanted) stored least) 0 v.code.edges)
