-- What is wanted of the marks of a program's edges, whatever chose it: which edges have a switch, which of those go to the lowest level, and which loops are tallied.
use Rattle.std.specs.Prelude.{◌≡◌, ℕ, Bool, true, List, slice_get, Some}
use Rattle.scale_base.specs.declared.edges.Edge.{Edge}
use Rattle.scale_base.specs.declared.edges.EdgeKind.{EdgeKind}
use Rattle.scale_base.specs.declared.edges.EdgeKind.TheVariants as kinds
use Rattle.scale_base.specs.declared.fragments.Mark.{Mark}
use Rattle.flow_graph.specs.FlowGraph.{FlowGraph}
use Rattle.loop_forest.specs.Tree.{LoopView}
use Rattle.scale_sites.specs.Counters.{counted_loops}
use Rattle.scale_sites.specs.Forms.{formed}
use Rattle.scale_sites.specs.Sites.{marks_where}

-- an edge of a branch or of a jump: the others have no marks
abbrev pub IsSitesKind : EdgeKind → Type 0
IsSitesKind kinds.Taken = Unit {0}
IsSitesKind kinds.Untaken = Unit {0}
IsSitesKind kinds.Jump = Unit {0}
IsSitesKind kinds.Next = ⊥
IsSitesKind kinds.CallNext = ⊥
IsSitesKind kinds.End = ⊥

-- by edge, whether it has a switch, and whether that goes to the lowest level by one instruction; and by shadow counter, whether its loop is tallied
pub record Wanted : Type 0 where
  pub switch : ℕ → Bool
  pub lowest : ℕ → Bool
  pub tallied : ℕ → Bool

-- only edges of branches and of jumps are to have a switch
abbrev pub ChoosesSites : FlowGraph → (ℕ → Bool) → Type 0
ChoosesSites v switch = (e : ℕ) → switch e ≡ true → (edge : Edge) × (slice_get v.code.edges e ≡ Some edge) × IsSitesKind edge.kind

-- By edge, its marks: a switch where it is wanted and leaves no counted loop, and the exits, resets and counts of counted loops; all in the forms that are wanted.
abbrev pub marked_where : FlowGraph → LoopView → Wanted → ℕ → List Mark
marked_where v t wanted e = formed (wanted.lowest e) wanted.tallied (marks_where v t (counted_loops t) wanted.switch e)
