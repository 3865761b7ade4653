-- Scaffold: the laws that the answers about one program agree, as statements for the contracts of functions.
use Rattle.std.specs.Prelude.{◌≡◌, ℕ, List}
use Rattle.scale_base.specs.declared.refusal.Refusal.{Refusal}
use Rattle.scale_base.specs.declared.stepping.Class.{Class}
use Rattle.cost_theory.specs.Worst.{Numbers, AreNumbers}
use Rattle.cost_theory.specs.Accepted.{AreWeights}
use Rattle.cycle_laws.specs.Charged.{Charged, AreCharged}
use Rattle.code_text.specs.Text.{Text}
use Rattle.code_text.specs.EdgeCosts.{weights}
use Rattle.flow_graph.specs.FlowGraph.{FlowGraph, graph, IsFlowGraph, IsGraphOf}
use Rattle.flow_graph.specs.Refused.{IsRefusedBy}
use Rattle.loop_file.specs.declared.notes.LoopNote.{LoopNote}
use Rattle.loop_forest.specs.Tree.{LoopView, loops, IsTreeOf, IsTreeRefusal}
use Rattle.answer_laws.specs.Renumbered.{IsRenumbered}
use Rattle.answer_laws.specs.Alike.{AreAlikeRefusals, AreAlikeTrees, AreAlikeNumbers, AreAlikeCharged}

-- ---- code

-- a text whose code has a graph is not refused,
abbrev pub GraphIsNotRefused : Type 0
GraphIsNotRefused = (t : Text) (v : FlowGraph) (refusal : Refusal) → IsGraphOf t v → IsRefusedBy t refusal → ⊥

-- two refusals of a text are alike,
abbrev pub CodeRefusalsAgree : Type 0
CodeRefusalsAgree = (t : Text) (refusal refusal' : Refusal) → IsRefusedBy t refusal → IsRefusedBy t refusal' →
    AreAlikeRefusals refusal refusal'

-- and two graphs of it differ in the numbers of functions alone,
abbrev pub GraphsAreRenumbered : Type 0
GraphsAreRenumbered = (t : Text) (v v' : FlowGraph) → IsGraphOf t v → IsGraphOf t v' → IsRenumbered v v'

-- so that their edges cost the same.
abbrev pub WeightsAgree : Type 0
WeightsAgree = (t : Text) (v v' : FlowGraph) (costs : Class → ℕ) → IsRenumbered v v' → weights t v.code costs ≡ weights t v'.code costs

-- ---- loops, over two such graphs

-- loops that have a tree over one graph are not refused over the other,
abbrev pub TreeIsNotRefused : Type 0
TreeIsNotRefused = (v v' : FlowGraph) (notes : List LoopNote) (t : LoopView) (refusal : Refusal) → IsRenumbered v v' → IsFlowGraph v →
    IsTreeOf v notes t → IsTreeRefusal v' notes refusal → ⊥

-- two refusals are alike,
abbrev pub LoopRefusalsAgree : Type 0
LoopRefusalsAgree = (v v' : FlowGraph) (notes : List LoopNote) (refusal refusal' : Refusal) → IsRenumbered v v' →
    IsTreeRefusal v notes refusal → IsTreeRefusal v' notes refusal' → AreAlikeRefusals refusal refusal'

-- and two trees list the same loops.
abbrev pub TreesAgree : Type 0
TreesAgree = (v v' : FlowGraph) (notes : List LoopNote) (t t' : LoopView) → IsRenumbered v v' → IsFlowGraph v →
    IsTreeOf v notes t → IsTreeOf v' notes t' → AreAlikeTrees v v' t t'

-- ---- numbers, over two such graphs, with the loops of notes, under the same weights

-- Two records of numbers hold the same.
abbrev pub NumbersAreAlike : Type 0
NumbersAreAlike = (v v' : FlowGraph) (notes : List LoopNote) (t t' : LoopView) (w : ℕ → ℕ) (n n' : Numbers) → (same : IsRenumbered v v') →
    IsFlowGraph v →
    IsTreeOf v notes t → IsTreeOf v' notes t' → AreNumbers (graph v) (loops v t) w n → AreNumbers (graph v') (loops v' t') w n' →
    AreAlikeNumbers v v' t t' same w n n'

-- So do two records of least cycles.
abbrev pub ChargedAreAlike : Type 0
ChargedAreAlike = (t : Text) (v v' : FlowGraph) (notes : List LoopNote) (tree tree' : LoopView) (w : ℕ → ℕ) (n n' : Charged) →
    IsGraphOf t v → IsRenumbered v v' →
    IsTreeOf v notes tree → IsTreeOf v' notes tree' → AreWeights (graph v) w → AreCharged (graph v) (loops v tree) w n →
    AreCharged (graph v') (loops v' tree') w n' → AreAlikeCharged v v' tree tree' n n'
