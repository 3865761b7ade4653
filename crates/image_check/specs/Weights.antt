-- Scaffold: what the edges of an original cost with the stubs of an image of other make, by the lists of what is found.
use Rattle.std.specs.Prelude.{◌≡◌, ℕ, List, []}
use Rattle.scale_base.specs.declared.edges.EdgeKind.{EdgeKind}
use Rattle.scale_base.specs.declared.edges.EdgeKind.TheVariants.{Taken, Untaken, Jump, Next, CallNext, End}
use Rattle.scale_base.specs.declared.fragments.Fragment.{Fragment}
use Rattle.scale_base.specs.declared.fragments.Fragment.TheVariants as fragments
use Rattle.scale_base.specs.declared.fragments.Mark.{Mark}
use Rattle.scale_base.specs.declared.fragments.Mark.TheVariants as marks
use Rattle.scale_base.specs.declared.stepping.Class.{Class}
use Rattle.scale_base.specs.Image.{Image}
use Rattle.power_model.specs.declared.power.Costs.{Costs}
use Rattle.power_model.specs.Price.{cycles_of}
use Rattle.code_text.specs.Text.{text_of}
use Rattle.flow_graph.specs.FlowGraph.{FlowGraph}
use Rattle.loop_forest.specs.Tree.{LoopView, loops}
use Rattle.worst_cycles.specs.Worst.{by_edge}
use Rattle.stored_runs.specs.Cycles.{fragment_cost}
use Rattle.paid_runs.specs.Marked.{extra_site_weights, stored_site_weights}
use Rattle.foreign_scan.specs.declared.fragment.ForeignFragment.{ForeignFragment}
use Rattle.foreign_scan.specs.declared.fragment.ForeignFragment.TheVariants.{Switch, Exit, Reset, Count}
use Rattle.foreign_scan.specs.Scanned.{Found}
use Rattle.foreign_scan.specs.Shown.{ScannedSites}
use Rattle.image_check.specs.Safe.{Owner, sites_of}
use Rattle.image_check.specs.Known.{IsFoundIn}

-- the mark for whose code a fragment stands
abbrev pub mark_of : ForeignFragment → Mark
mark_of (Switch word) = marks.Switch
mark_of (Exit counter shift table) = marks.Exit counter
mark_of (Reset counter) = marks.Reset counter
mark_of (Count counter) = marks.Count counter

-- a fragment without rows, which cost nothing
abbrev pub without_rows : ForeignFragment → Fragment
without_rows (Switch word) = fragments.Switch word
without_rows (Exit counter shift table) = fragments.Exit counter shift []
without_rows (Reset counter) = fragments.Reset counter
without_rows (Count counter) = fragments.Count counter

-- the cycles of a fragment
abbrev pub foreign_cost : (Class → ℕ) → ForeignFragment → ℕ
foreign_cost cost f = fragment_cost cost (without_rows f)

-- the jumps of the stub over an edge of a patched instruction: to the stub and back, and of a jump the one back
abbrev pub stub_jumps : EdgeKind → ℕ
stub_jumps Taken = 2
stub_jumps Untaken = 2
stub_jumps Jump = 1
stub_jumps Next = 1
stub_jumps CallNext = 1
stub_jumps End = 1

-- so much an edge takes more with the stubs of the fragments that are found
abbrev pub IsExtraAt : Costs → FlowGraph → ScannedSites → (e extra : ℕ) → Type 0
IsExtraAt costs v s e extra = (original foreign : Image) (t : LoopView) (owner : Owner) (found : Found) →
    IsFoundIn original foreign v t found s
    → extra ≡ extra_site_weights (text_of original) v.code (cycles_of costs) (sites_of original foreign v.code (loops v t) owner found) e

-- by edge, what it takes more, and what it costs with that
abbrev pub AreExtraWeights : Costs → FlowGraph → ScannedSites → List ℕ → Type 0
AreExtraWeights costs v s w = (original foreign : Image) (t : LoopView) (owner : Owner) (found : Found) →
    IsFoundIn original foreign v t found s
    → by_edge w ≡ extra_site_weights (text_of original) v.code (cycles_of costs) (sites_of original foreign v.code (loops v t) owner found)

abbrev pub AreStoredWeights : Costs → FlowGraph → ScannedSites → List ℕ → Type 0
AreStoredWeights costs v s w = (original foreign : Image) (t : LoopView) (owner : Owner) (found : Found) →
    IsFoundIn original foreign v t found s
    → by_edge w ≡ stored_site_weights (text_of original) v.code (cycles_of costs) (sites_of original foreign v.code (loops v t) owner found)
