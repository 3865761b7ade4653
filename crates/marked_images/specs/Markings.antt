-- Scaffold: the marks of a program's edges, its numbers under the stored weights and its budgets, as the code keeps them. What is wanted of the marks is a parameter.
use Rattle.std.specs.Prelude.{◌≡◌, ◌≢◌, ℕ, ◌*◌, ◌^◌, ◌<◌, ◌≤◌, Bool, List, [], length, All, slice_get, slice_index, Some}
use Rattle.scale_base.specs.declared.limits.TheConstants.{CYCLE_LIMIT}
use Rattle.scale_base.specs.declared.fragments.Fragment.{Fragment}
use Rattle.scale_base.specs.Image.{Image}
use Rattle.power_model.specs.Numbers.{PowerModel}
use Rattle.cycle_laws.specs.Charged.{Charged, to_end_after}
use Rattle.cost_theory.specs.Worst.{Numbers}
use Rattle.flow_graph.specs.FlowGraph.{FlowGraph, graph, IsGraphOf}
use Rattle.code_text.specs.Text.{text_of}
use Rattle.level_tables.specs.declared.edge_numbers.EdgeNumbers.{EdgeNumbers}
use Rattle.loop_forest.specs.Tree.{LoopView, loops, IsLoopTree}
use Rattle.scale_base.specs.declared.fragments.Mark.{Mark}
use Rattle.scale_sites.specs.Counters.{counted_loops}
use Rattle.scale_sites.specs.Sites.{marks_at_edge}
use Rattle.worst_cycles.specs.Worst.{HoldsLeft, slack_at, rest_at}
use Rattle.rewritten_runs.specs.Stubs.{stored_weights, told_at, fragment_by, fragments_with}
use Rattle.stub_writer.specs.declared.site.StubEdge.{StubEdge}
use Rattle.stub_writer.specs.Sites.{kind_number, fragments_by}
use Rattle.marked_images.specs.declared.stubs.Marking.{Marking}
use Rattle.level_tables.specs.Budgets.{meets_in_budget, budget_at}
use Rattle.scale_base.specs.declared.edges.Edge.{Edge}
use Rattle.marked_images.specs.Wanted.{Wanted, ChoosesSites, marked_where}

-- the marks, the numbers under the stored weights, and the least cycles, all in range
pub record IsMarking (power : PowerModel) (image : Image) (v : FlowGraph) (t : LoopView) (wanted : Wanted) (stored : Numbers)
    (least : Charged) (m : Marking) : Type 0 where
  pub code : IsGraphOf (text_of image) v
  pub tree : (extent : ℕ → ℕ → Bool) × IsLoopTree v extent t
  pub counters : m.counters ≡ counted_loops t
  pub few : length (counted_loops t) ≤ 509
  pub kinds : ChoosesSites v wanted.switch
  pub size : length m.sites.marks ≡ length v.code.edges
  pub marks : (e : ℕ) → e < length v.code.edges → marks_at_edge m.sites e ≡ marked_where v t wanted e
  pub slacks_size : length m.worst.slacks ≡ length v.code.edges
  pub rests_size : length m.worst.rests ≡ length v.code.edges
  pub iterations_size : length m.worst.iteration ≡ length t.headers
  pub left : HoldsLeft v (loops v t) (stored_weights power image v (marked_where v t wanted)) stored m.worst
  pub iteration : (k : ℕ) → k < length t.headers → slice_get m.worst.iteration k ≡ Some (stored.iteration k)
  pub after_size : length m.least.after ≡ length v.code.edges
  pub after : (e : ℕ) → e < length v.code.edges → slice_get m.least.after e ≡ Some (to_end_after (graph v) (loops v t) least e)
  pub slack_small : (e : ℕ) → e < length v.code.edges → slack_at (graph v) (loops v t)
      (stored_weights power image v (marked_where v t wanted)) stored e ≤ 2 ^ 50
  pub rest_small : (e : ℕ) → e < length v.code.edges → rest_at (graph v) (loops v t) stored e ≤ CYCLE_LIMIT
  pub turns_small : (k : ℕ) → k < length t.headers → (loops v t).bound k * stored.iteration k ≤ CYCLE_LIMIT
  pub after_small : (e z : ℕ) → e < length v.code.edges → to_end_after (graph v) (loops v t) least e ≡ Some z → z < 2 ^ 89

-- the test that its levels meet
abbrev pub test_of : PowerModel → Marking → EdgeNumbers → ℕ → ℕ → Bool
test_of power m = meets_in_budget power (budget_at m.budgets)

abbrev pub HasMarking : PowerModel → FlowGraph → LoopView → Marking → Type 0
HasMarking power v t m = (image : Image) × (wanted : Wanted) × (stored : Numbers) × (least : Charged) ×
    IsMarking power image v t wanted stored least m

-- what is found, whatever the numbers of the marking
abbrev pub Whichever : PowerModel → FlowGraph → LoopView → Marking → (Image → Wanted → Numbers → Charged → Type 0) → Type 0
Whichever power v t m P = (image : Image) (wanted : Wanted) (stored : Numbers) (least : Charged) →
    IsMarking power image v t wanted stored least m → P image wanted stored least

abbrev pub IsToldAt : PowerModel → FlowGraph → LoopView → Marking → ℕ → EdgeNumbers → Type 0
IsToldAt power v t m e x = Whichever power v t m (λ image wanted stored least. x ≡ told_at power image v t
    (marked_where v t wanted) stored least e)

abbrev pub IsFragmentAt : PowerModel → FlowGraph → LoopView → Marking → ℕ → Mark → Fragment → Type 0
IsFragmentAt power v t m e mark f = Whichever power v t m (λ image wanted stored least. f ≡ fragment_by power (test_of power m) (loops v t)
    (counted_loops t) stored (told_at power image v t (marked_where v t wanted) stored least e) mark)

abbrev pub AreFragmentsAt : PowerModel → FlowGraph → LoopView → Marking → ℕ → List Fragment → Type 0
AreFragmentsAt power v t m e fs = Whichever power v t m (λ image wanted stored least. fs ≡ fragments_with power (test_of power m) image v t
    (marked_where v t wanted) stored least e)

-- ---- the marked edges of a node

-- an edge of the graph, below a number, that starts at the address and has fragments: those
pub record IsMarkedEdge (v : FlowGraph) (frags : ℕ → List Fragment) (at n : ℕ) (s : StubEdge) : Type 0 where
  pub number : ℕ
  pub below : number < n
  pub get : slice_get v.code.edges number ≡ Some s.edge
  pub starts : s.edge.at ≡ at
  pub has : s.fragments ≡ frags number
  pub some : frags number ≢ []

-- the marked ones of the edges below a number that start at the address
pub record AreMarkedEdges (v : FlowGraph) (frags : ℕ → List Fragment) (at n : ℕ) (es : List StubEdge) : Type 0 where
  pub each : All (IsMarkedEdge v frags at n) es
  pub whole : (e : ℕ) (x : Edge) → e < n → slice_get v.code.edges e ≡ Some x → x.at ≡ at → fragments_by (kind_number x.kind) es ≡ frags e

pub record AreEdgesOfNode (v : FlowGraph) (frags : ℕ → List Fragment) (at : ℕ) (es : List StubEdge) : Type 0 where
  pub few : length es ≤ 2
  pub are : AreMarkedEdges v frags at (length v.code.edges) es

abbrev pub AreEdgesAt : PowerModel → FlowGraph → LoopView → Marking → ℕ → List StubEdge → Type 0
AreEdgesAt power v t m k es = Whichever power v t m (λ image wanted stored least. AreEdgesOfNode v
    (fragments_with power (test_of power m) image v t (marked_where v t wanted) stored least) (slice_index v.code.nodes k) es)
