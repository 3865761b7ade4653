-- Scaffold: a program with its numbers, its marks and a walk, as the code keeps them.
use Rattle.std.specs.Prelude.{◌≡◌, ℕ, ◌<◌, Bool, List, [], length, slice_get, Option, Some, None, is_some, IfSome, Ok, Err}
use Rattle.scale_base.specs.declared.refusal.Refusal.{Refusal}
use Rattle.scale_base.specs.declared.fragments.Mark.{Mark}
use Rattle.graph_algorithms.specs.Arcs.{number_in_place}
use Rattle.flow_graph.specs.FlowGraph.{FlowGraph, graph}
use Rattle.flow_graph.specs.Blocks.{AreBlocks}
use Rattle.loop_forest.specs.Tree.{LoopView, loops, IsLoopTree}
use Rattle.worst_cycles.specs.Worst.{WorstView, by_edge, rest_at}
use Rattle.scale_sites.specs.Counters.{AreCounters, counted_loops}
use Rattle.scale_sites.specs.Sites.{AreSites, marks_at_edge}
use Rattle.worst_walks.specs.declared.search.Known.{Known}
use Rattle.worst_walks.specs.Explained.{IsWorstWalk}
use Rattle.worst_walks.specs.declared.counts.WalkCounts.{WalkCounts}
use Rattle.plan_graphs.specs.declared.sketch.Marked.{Marked}
use Rattle.plan_graphs.specs.declared.sketch.Sketch.{Sketch}
use Rattle.plan_graphs.specs.declared.plan.PlanGraph.{PlanGraph}
use Rattle.plan_graphs.specs.Drawn.{Told, AreDrawn, IsBlockDrawn, IsFunctionDrawn, IsLoopDrawn}

-- marks of each edge, with the counted loops, where there are marks
abbrev pub AreMarksKept : FlowGraph → LoopView → Option Marked → Type 0
AreMarksKept v t None = Unit {0}
AreMarksKept v t (Some m) = (m.counters ≡ counted_loops t) × (length m.sites.marks ≡ length v.code.edges)

-- a graph with its loops, and as many numbers as there are edges, functions and loops
pub record IsSketched (v : FlowGraph) (t : LoopView) (n : WorstView) (marked : Option Marked) : Type 0 where
  pub tree : (extent : ℕ → ℕ → Bool) × IsLoopTree v extent t
  pub rests_size : length n.rests ≡ length v.code.edges
  pub context_size : length n.context ≡ length v.code.functions
  pub worst_size : length n.worst ≡ length v.code.functions
  pub turns_size : length n.iteration ≡ length t.headers
  pub marks : AreMarksKept v t marked

abbrev pub IsSketch : Sketch → Type 0
IsSketch x = IsSketched x.graph.now x.tree.now x.worst.now x.marked.now

-- by edge its marks, by edge how often it is taken, by function how often it is called, and by loop its turns
abbrev pub marks_kept : Option Marked → ℕ → List Mark
marks_kept None e = []
marks_kept (Some m) e = marks_at_edge m.sites e

abbrev pub taken_kept : Option WalkCounts → ℕ → ℕ
taken_kept None e = 0
taken_kept (Some x) e = number_in_place x.taken.items e

abbrev pub calls_kept : Option WalkCounts → ℕ → ℕ
calls_kept None f = 0
calls_kept (Some x) f = number_in_place x.calls.items f

abbrev pub turns_kept : Option WalkCounts → ℕ → ℕ
turns_kept None k = 0
turns_kept (Some x) k = number_in_place x.turns.items k

-- what marking finds: marks by slacks, or that the counted loops are refused
abbrev pub AreMarkedBy : FlowGraph → LoopView → (slacks : List ℕ) → (min_gain : ℕ) → Option Marked → Type 0
AreMarkedBy v t slacks min_gain None = (refusal : Refusal) × AreCounters v t (Err refusal)
AreMarkedBy v t slacks min_gain (Some m) = AreCounters v t (Ok m.counters) × AreSites v t m.counters slacks min_gain m.sites

abbrev pub AreCountedBy : FlowGraph → LoopView → Option (List ℕ) → Type 0
AreCountedBy v t None = (refusal : Refusal) × AreCounters v t (Err refusal)
AreCountedBy v t (Some counted) = AreCounters v t (Ok counted)

-- these are the numbers, the marks and the counts that are kept
pub record HoldsTold (v : FlowGraph) (t : LoopView) (n : WorstView) (marked : Option Marked) (walk : Option WalkCounts) (told : Told)
    : Type 0 where
  pub rest : (e : ℕ) → e < length v.code.edges → slice_get n.rests e ≡ Some (rest_at (graph v) (loops v t) told.numbers e)
  pub context : (f : ℕ) → f < length v.code.functions → slice_get n.context f ≡ Some (told.numbers.context f)
  pub worst : (f : ℕ) → f < length v.code.functions → slice_get n.worst f ≡ Some (told.numbers.worst f)
  pub turn : (k : ℕ) → k < length t.headers → slice_get n.iteration k ≡ Some (told.numbers.iteration k)
  pub marks : (e : ℕ) → told.marks e ≡ marks_kept marked e
  pub taken : (e : ℕ) → told.taken e ≡ taken_kept walk e
  pub calls : (f : ℕ) → told.calls f ≡ calls_kept walk f
  pub turns : (k : ℕ) → told.turns k ≡ turns_kept walk k

-- all functions, loops and blocks of a program
pub record ArePartsDrawn (v : FlowGraph) (t : LoopView) (n : WorstView) (told : Told) (plan : PlanGraph) : Type 0 where
  pub worst : slice_get n.worst 0 ≡ Some plan.worst
  pub functions : AreDrawn (IsFunctionDrawn v told) (length v.code.functions) plan.functions.items
  pub loops : AreDrawn (IsLoopDrawn v t told) (length t.headers) plan.loops.items
  pub blocks_are : AreBlocks v v.blocks
  pub blocks : AreDrawn (IsBlockDrawn v t told) (length v.blocks) plan.blocks.items

abbrev pub IsSketchDrawn : Sketch → Told → PlanGraph → Type 0
IsSketchDrawn x told plan = ArePartsDrawn x.graph.now x.tree.now x.worst.now told plan

abbrev pub Holds : Sketch → Told → Type 0
Holds x told = HoldsTold x.graph.now x.tree.now x.worst.now x.marked.now x.walk.now told

-- The same of a program whose worst cycles are known: what is told of it is its numbers, the marks, and the counts of a walk that takes its worst cycles, if one is found.
pub record AreKnownDrawn (x : Known) (marked : Option Marked) (worst : ℕ) (plan : PlanGraph) : Type 0 where
  pub walk : Option WalkCounts
  pub is_walk : IfSome walk (λ y. IsWorstWalk (graph x.graph.now) (loops x.graph.now x.tree.now) (by_edge x.weights.now) worst y)
  pub walked : plan.walked ≡ is_some walk
  pub countable : plan.countable ≡ is_some marked
  pub drawn : (told : Told) → HoldsTold x.graph.now x.tree.now x.worst.now marked walk told →
      ArePartsDrawn x.graph.now x.tree.now x.worst.now told plan
