-- The marks and the jumps of all edges of a program.
use Rattle.std.specs.Prelude.{◌≡◌, ℕ, ◌<◌, ◌≤◌, Bool, true, false, List, [], length, slice_get, slice_index, slice_index_or, Option, Some, None}
use Rattle.scale_base.specs.declared.edges.Edge.{Edge}
use Rattle.scale_base.specs.declared.edges.EdgeKind.{EdgeKind}
use Rattle.scale_base.specs.declared.edges.EdgeKind.TheVariants.{Taken, Untaken, Jump, Next, CallNext, End}
use Rattle.flow_graph.specs.FlowGraph.{FlowGraph, graph}
use Rattle.loop_forest.specs.Tree.{LoopView, loops}
use Rattle.scale_base.specs.declared.fragments.Mark.{Mark}
use Rattle.scale_sites.specs.Marks.{marks_of}
use Rattle.scale_sites.specs.Weights.{jumps_of}

pub record SitesView : Type 0 where
  -- by edge, its marks, and the jumps of its stub
  pub marks : List (List Mark)
  pub jumps : List ℕ

-- the edges of a branch
abbrev pub is_branch_kind : EdgeKind → Bool
is_branch_kind Taken = true
is_branch_kind Untaken = true
is_branch_kind Jump = false
is_branch_kind Next = false
is_branch_kind CallNext = false
is_branch_kind End = false

abbrev pub edge_branches : Option Edge → Bool
edge_branches None = false
edge_branches (Some e) = is_branch_kind e.kind

abbrev pub is_branch : FlowGraph → ℕ → Bool
is_branch v e = edge_branches (slice_get v.code.edges e)

-- by edge, the marks that its slack gives it
abbrev pub marks_by : FlowGraph → LoopView → List ℕ → List ℕ → ℕ → ℕ → List Mark
marks_by v t counted slacks min_gain e = marks_of (graph v) (loops v t) counted (is_branch v e) (slice_index slacks e) min_gain e

-- the marks of an edge, by their list
abbrev pub marks_in : List (List Mark) → ℕ → List Mark
marks_in marks e = slice_index_or marks e []

abbrev pub marks_at_edge : SitesView → ℕ → List Mark
marks_at_edge s e = marks_in s.marks e

-- the flag of an edge, by a list
abbrev pub flag_at : List Bool → ℕ → Bool
flag_at flags e = slice_index_or flags e false

-- by edge, the marks where those that are wanted have a switch, unless they leave a counted loop
abbrev pub marks_where : FlowGraph → LoopView → List ℕ → (ℕ → Bool) → ℕ → List Mark
marks_where v t counted wanted e = marks_of (graph v) (loops v t) counted (wanted e) 0 0 e

-- the marks of the first n edges, and the jumps over them
pub record AreMarksBy (marked : ℕ → List Mark) (n : ℕ) (marks : List (List Mark)) : Type 0 where
  pub size : length marks ≡ n
  pub each : (e : ℕ) → e < n → slice_get marks e ≡ Some (marked e)
  pub few : (e : ℕ) → length (marks_in marks e) ≤ 1600

abbrev pub AreMarks : FlowGraph → LoopView → (counted slacks : List ℕ) → (min_gain n : ℕ) → List (List Mark) → Type 0
AreMarks v t counted slacks min_gain n marks = AreMarksBy (marks_by v t counted slacks min_gain) n marks

pub record AreJumps (v : FlowGraph) (marks : List (List Mark)) (n : ℕ) (jumps : List ℕ) : Type 0 where
  pub size : length jumps ≡ n
  pub each : (e : ℕ) → e < n → slice_get jumps e ≡ Some (jumps_of (graph v) (is_branch v) (marks_in marks) e)
  pub few : (e : ℕ) → slice_index jumps e ≤ 2

-- the marks of all edges, and the jumps of the stubs of their instructions
pub record AreSitesBy (v : FlowGraph) (marked : ℕ → List Mark) (s : SitesView) : Type 0 where
  pub marks : (e : ℕ) → e < length v.code.edges → slice_get s.marks e ≡ Some (marked e)
  pub jumps : (e : ℕ) → e < length v.code.edges → slice_get s.jumps e ≡ Some (jumps_of (graph v) (is_branch v) (marks_at_edge s) e)
  pub marks_size : length s.marks ≡ length v.code.edges
  pub jumps_size : length s.jumps ≡ length v.code.edges

-- where slack chooses, and where a list of flags does
abbrev pub AreSites : FlowGraph → LoopView → (counted slacks : List ℕ) → (min_gain : ℕ) → SitesView → Type 0
AreSites v t counted slacks min_gain s = AreSitesBy v (marks_by v t counted slacks min_gain) s

abbrev pub AreWantedSites : FlowGraph → LoopView → (counted : List ℕ) → List Bool → SitesView → Type 0
AreWantedSites v t counted wanted s = AreSitesBy v (marks_where v t counted (flag_at wanted)) s

-- what every Sites keeps
pub record IsSites (s : SitesView) : Type 0 where
  pub sizes : length s.jumps ≡ length s.marks
  pub few : (e : ℕ) → length (marks_at_edge s e) ≤ 1600
  pub jumps : (e : ℕ) → slice_index s.jumps e ≤ 2
