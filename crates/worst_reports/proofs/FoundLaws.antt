-- Lines that are found.
use Rattle.std.proofs.Common.{◌≡◌, ℕ, List, Option, Some, None, Result, Ok, Err, subst}
use Rattle.std.specs.Prelude.{IfOk, IfSome}
use Rattle.std.specs.Global.{Vec}
use Rattle.scale_base.specs.declared.refusal.NoMemory.{NoMemory}
use Rattle.flow_graph.specs.FlowGraph.{graph}
use Rattle.loop_forest.specs.Tree.{loops}
use Rattle.worst_lines.specs.declared.shown.Line.{Line}
use Rattle.worst_lines.specs.declared.lines.Walked.{Walked}
use Rattle.worst_lines.specs.Kept.{IsWalkedBy}
use Rattle.worst_lines.specs.Lines.{AreLines}
use Rattle.worst_reports.specs.Explained.{AreLinesIfFound}

-- where the counts are those of a walk, the lines that are found are those of that walk
pub lines_found : (result : Result (Option (Vec Line)) NoMemory) (x : Walked) (w : ℕ → ℕ) (worst : ℕ) (file : List ℕ) → x.names.now.file ≡ file →
    IfOk result (λ o. IfSome o (λ lines. (w : ℕ → ℕ) → IsWalkedBy x w worst → AreLines x.names.now.file (graph x.graph.now) (loops x.graph.now x.tree.now) w worst lines.items)) →
    IsWalkedBy x w worst → IfOk result (AreLinesIfFound file (graph x.graph.now) (loops x.graph.now x.tree.now) w worst)
lines_found (Ok None) x w worst file same h is = tt
lines_found (Ok (Some lines)) x w worst file same h is = subst (λ (f : List ℕ). AreLines f (graph x.graph.now) (loops x.graph.now x.tree.now) w worst lines.items) same (h w is)
lines_found (Err e) x w worst file same h is = tt
