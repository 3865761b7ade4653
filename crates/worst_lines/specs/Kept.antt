-- Scaffold: a program with what is counted along a walk, and lines as they are added.
use Rattle.std.specs.Prelude.{◌≡◌, ℕ, ◌<◌, Bool, List, length}
use Rattle.std.specs.List.{All, Contains}
use Rattle.cost_theory.specs.Graph.{Graph, Loops}
use Rattle.flow_graph.specs.FlowGraph.{graph, IsFlowGraph}
use Rattle.loop_forest.specs.Tree.{loops, IsLoopTree}
use Rattle.worst_walks.specs.Explained.{IsWorstWalk}
use Rattle.worst_walks.specs.Whole.{AreWholeCycles}
use Rattle.worst_lines.specs.declared.shown.Line.{Line}
use Rattle.worst_lines.specs.declared.lines.Walked.{Walked}
use Rattle.worst_lines.specs.Lines.{Course, calls, entries, IsFunctionLine, IsLoopLine, IsLine}

-- one number for each function and for each loop
pub record HasCounts (x : Walked) : Type 0 where
  pub tree : (extent : ℕ → ℕ → Bool) × IsLoopTree x.graph.now extent x.tree.now
  pub calls : length x.counts.now.calls.items ≡ length x.graph.now.code.functions
  pub function_own : length x.counts.now.function_own.items ≡ length x.graph.now.code.functions
  pub function_all : length x.all.now.functions.items ≡ length x.graph.now.code.functions
  pub entries : length x.counts.now.entries.items ≡ length x.tree.now.headers
  pub turns : length x.counts.now.turns.items ≡ length x.tree.now.headers
  pub loop_own : length x.counts.now.loop_own.items ≡ length x.tree.now.headers
  pub loop_all : length x.all.now.loops.items ≡ length x.tree.now.headers

-- the counts are those of a walk that takes so many cycles
pub record IsWalkedBy (x : Walked) (w : ℕ → ℕ) (worst : ℕ) : Type 0 where
  pub walk : IsWorstWalk (graph x.graph.now) (loops x.graph.now x.tree.now) w worst x.counts.now
  pub all : AreWholeCycles (graph x.graph.now) (loops x.graph.now x.tree.now) w walk.walks x.counts.now x.all.now

abbrev pub course_of : (x : Walked) (w : ℕ → ℕ) (worst : ℕ) → IsWalkedBy x w worst → Course
course_of x w worst is = record { walks = is.walk.walks; inner = is.walk.inner }

-- lines of the functions and of the loops below these numbers
pub record AreLinesBelow (file : List ℕ) (g : Graph) (l : Loops) (w : ℕ → ℕ) (s : Course) (fs ks : ℕ) (lines : List Line) : Type 0 where
  pub functions : (f : ℕ) → f < fs → 0 < calls g s f → (line : Line) × Contains lines line × IsFunctionLine file g w s f line
  pub loops : (k : ℕ) → k < ks → 0 < entries g l s k → (line : Line) × Contains lines line × IsLoopLine file g l w s k line
  pub only_these : All (IsLine file g l w s) lines

-- the same of the walk by which the counts are
abbrev pub AreLinesOf : Walked → (fs ks : ℕ) → List Line → Type 0
AreLinesOf x fs ks lines = (w : ℕ → ℕ) (worst : ℕ) (is : IsWalkedBy x w worst) →
    AreLinesBelow x.names.now.file (graph x.graph.now) (loops x.graph.now x.tree.now) w (course_of x w worst is) fs ks lines
